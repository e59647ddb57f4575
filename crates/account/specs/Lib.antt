-- The account of one face in the case of one report line. `Coefficients` serves private contracts alone.
pub mod Account
pub mod Coefficients
