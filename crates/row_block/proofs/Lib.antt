pub mod Crossing
pub mod Heap
pub mod Layouts
pub mod Memory
pub mod Stacks
