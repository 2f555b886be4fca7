pub mod BrpLines
