-- Where the first fault of a sheet lies.
pub mod Slip
