-- The laws, from the remainders of a list of forces up to what the paper asks of its column.
pub mod Remainders  -- what they come to is what is missing
pub mod Ranks  -- in an order of so many, how many have few ahead of them
pub mod Ahead  -- the faces are in such an order
pub mod Entries  -- the entries of a column, by their place
pub mod AddsUp  -- who gets one more, and that the column adds up
pub mod Near  -- each entry is less than 1 N from its force
pub mod Fairly  -- the column is what is asked, and nothing else is
pub mod Pasted  -- the list that it goes into, entry by entry
pub mod Worked  -- columns worked out
