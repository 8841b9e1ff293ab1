-- What a sheet can hold.
use Rattle.std.specs.Prelude.{ℕ, ◌^◌, ◌≤◌, ◌<◌}
use Rattle.rules.specs.Numbers.{wires_most, channels_most, backlog_bits, delay_bits, end_bits}

-- counts within their ranges, and figures that fit their fields
pub record Fits (n m : ℕ) (b d e : ℕ → ℕ) : Type 0 where
  pub wires_at_least : 1 ≤ n
  pub wires_at_most : n ≤ wires_most
  pub channels_at_least : 1 ≤ m
  pub channels_at_most : m ≤ channels_most
  pub backlog_fits : (w : ℕ) → w < n → b w < 2 ^ backlog_bits
  pub delay_fits : (w : ℕ) → w < n → d w < 2 ^ delay_bits
  pub end_fits : (k : ℕ) → k < m → e k < 2 ^ end_bits
