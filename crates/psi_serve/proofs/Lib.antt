pub mod Fewer
pub mod OneRound
pub mod LaneRounds
pub mod OneSets
pub mod Begun
