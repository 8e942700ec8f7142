pub mod Exact
pub mod Laws
pub mod Odds
pub mod Test
pub mod Times
