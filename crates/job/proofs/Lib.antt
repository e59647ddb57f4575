-- The laws: of the walk; that the answer is the first fault; what is accepted, written and read again; and of
-- records.
pub mod Lowest
pub mod Room
pub mod FirstFault
pub mod Walk
pub mod Sections
pub mod Sheet
pub mod Lines
pub mod Years
pub mod RoundTrip
pub mod InForm
pub mod InOrder
pub mod Records
pub mod Worked
pub mod Written
pub mod Alone
pub mod Judged
pub mod Verdicts
