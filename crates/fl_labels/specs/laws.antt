-- Proved laws that the crates above cite: of orders, of texts, of lists that rise and the sets that they list, of searches, and
-- of what is dual.
pub mod Duals
pub mod OneReading
pub mod Orders
pub mod Rising
pub mod SortedVec
pub mod Searches
