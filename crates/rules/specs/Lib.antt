-- Document 01, with requests Q-1 (labels), Q-2 (prices) and Q-4 (office machines), as definitions, a file for each of its sections.
-- What stands here is what a reader must believe. Three are no section of it: Decoded, the code's arrays over those
-- definitions, and Sound and Fits, what holds of every view that passed tests 1 to 11 and of what a sheet can hold.
pub mod Words
pub mod Numbers
pub mod Replies
pub mod Price
pub mod Channel
pub mod Table
pub mod Reading
pub mod Office
pub mod Bounds
pub mod Sound
pub mod Decoded
pub mod Fits
pub mod Sheet
pub mod Judgement
pub mod Text
pub mod Roll
pub mod Machine
pub mod Cases
pub mod Incident
pub mod Promise
