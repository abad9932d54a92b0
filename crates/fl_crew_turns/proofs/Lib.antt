pub mod Dollars
