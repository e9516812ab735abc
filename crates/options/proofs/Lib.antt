pub mod Numbers
pub mod Suppliers
