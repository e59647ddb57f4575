-- What it is to edit the faces of a job, and what each edit is refused for.
pub mod Faces
pub mod Edits
