-- No body is longer than an hour's 35 bytes: the rules' law, passed on to the crates that read records.
pub use Rattle.rules.proofs.EachKind.{body_short}
