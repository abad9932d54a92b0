-- Proved laws of the processes of nodes and worlds, in three parts, each of which stands on those
-- above it.

-- the pids that are given
pub mod Making
pub mod Turning
pub mod Giving
pub mod Pids
-- who lives in a world
pub mod Fates
pub mod Places
pub mod Stories
pub mod Living
pub mod Returning
pub mod Telling
-- what processes do
pub mod Members
pub mod Owning
pub mod Changing
pub mod Sending
pub mod Arriving
pub mod Keeping
