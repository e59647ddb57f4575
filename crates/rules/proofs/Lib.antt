-- Laws of the form of a line, of faults by rising number, and of the fault of a line.
pub mod Form
pub mod Rising
pub mod Line
pub mod Spotted
