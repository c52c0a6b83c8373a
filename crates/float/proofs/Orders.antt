-- The order of numbers, and totalOrder.
pub mod Order
pub mod TotalOrder
