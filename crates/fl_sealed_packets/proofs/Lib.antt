mod Openings
mod Rows
mod NotOurs
