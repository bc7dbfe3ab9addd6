pub mod WithCode
pub mod Coded
pub mod CheckCodes
pub mod Table
pub mod Dispatch
pub mod Option
pub mod NodesOf
pub mod Typescript
