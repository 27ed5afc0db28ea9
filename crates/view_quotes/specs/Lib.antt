pub mod Laws
pub mod Printed
pub mod Records
pub mod Standing
