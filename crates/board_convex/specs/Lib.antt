pub mod Form
pub mod Test
pub mod LineEnds
pub mod Cells
pub mod PeelLoop
