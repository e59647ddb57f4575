-- What the customer was promised, as theorems.
-- ---- the front door: the three demands, the panel, other sentences of paper 01, its printed cases and
-- its sample, and sentences of paper 02
pub mod Demand1
pub mod Demand2
pub mod Demand3
pub mod Panel
pub mod PanelOfPairs
pub mod Where
pub mod Share
pub mod Outside
pub mod Paper01
pub mod Paper02
pub mod Item1
pub mod Item4
pub mod Item6
pub mod Item7
pub mod Item8
pub mod Item9
pub mod Item10
pub mod Item11
pub mod Item12
pub mod Item13
pub mod Item14
pub mod Printed
pub mod RowsWorked
pub mod Sample
pub mod SpeedsWorked
-- ---- the lists, with a line for each public function
pub mod LentColumn
pub mod LentFaces
pub mod Contracts
pub mod NothingAsked
pub mod Determined
pub mod Unchanged
-- ---- that what the definitions compute is what was promised, and that this leaves no choice
pub mod Accepted
pub mod Fault
pub mod Question
pub mod Edit
pub mod Session
pub mod Total
pub mod Written
pub mod Mended
pub mod InParts
pub mod Decimal
pub mod Again
pub mod Shown
