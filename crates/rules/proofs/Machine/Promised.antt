-- The promise holds: from acceptance to the figures, and from the figures to what asking the sheet replies.
use mathlib.Core.Path.{refl}
use Prim.Native.Nat.{◌<◌}
use native.Mathlib.Omega.{arith}
use Rattle.rules.specs.Table.{View, view_of}
use Rattle.rules.specs.Bounds.{backlog, delay, end_to_end}
use Rattle.rules.specs.Machine.{Releases, Run, Allowed, nobody}
use Rattle.rules.specs.Promise.{Promise, PromiseAlone}
use Rattle.rules.proofs.Bounds.Judgement.{judge-accepted}
use Rattle.rules.proofs.Sheet.Accepted.{accepted_answers}
use Rattle.rules.proofs.Machine.Figures.{backlog-holds, left-within, delivered-whole}

pub promise : Promise
promise s lent length e released keeps held run allowed =
    let accepted = judge-accepted s lent length e in
    let t = view_of s in
    let sound = accepted.0.sound in
    let bounded = accepted.0.bounded in
    let answers = (accepted_answers s lent length e).0 in
    record {
      wires = λ w l.
          (let lw : w < t.wires = omega arith in
          record {
            backlog = backlog t w;
            delay = delay t w;
            asked = answers.wire w lw;
            backlog_at_most =
                λ slot. omega (arith, backlog-holds t sound bounded.loads released keeps held run allowed w slot lw);
            within_room = omega (arith, bounded.backlogs w lw);
            left = λ slot. left-within t sound bounded.loads released keeps held run allowed w _ _ lw (omega arith);
          });
      channels = λ k l.
          (let lk : k < t.channels = omega arith in
          record {
            delay = end_to_end t k;
            asked = answers.channel k lk;
            within_deadline = omega (arith, bounded.ends k lk);
            whole =
                λ r slot due. delivered-whole t sound bounded.loads released keeps held run allowed k r slot lk (omega arith);
          });
    }

-- Nobody holding is allowed.
pub nobody-allowed : (t : View) (released : Releases) (run : Run t released nobody) → Allowed run
nobody-allowed t released run =
    record {
      from_then_on = λ w slot l queue arrived. refl;
      at_most = λ w slot l. omega arith;
      not_again = λ w slot l more. refl;
    }

pub promise_alone : PromiseAlone
promise_alone s lent length e released keeps run =
    promise s lent length e released keeps nobody run (nobody-allowed (view_of s) released run)
