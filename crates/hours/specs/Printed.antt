-- The bytes that the program hands to standard output: three parts one after the other, each at the start of its buffer.
use Rattle.std.specs.Prelude.{List, ◌++◌, ℕ, ◌≤◌, length, take}
use Rattle.report_text.specs.declared.Lines.{Lines}

-- the parts lie within the buffers
pub record Within (p : Lines) (first rest parties : List ℕ) : Type 0 where
  pub first_within : p.first ≤ length first
  pub rest_within : p.rest ≤ length rest
  pub parties_within : p.parties ≤ length parties

-- and these are their bytes, one after the other
abbrev pub printed : Lines → List ℕ → List ℕ → List ℕ → List ℕ
printed p first rest parties = take p.first first ++ take p.rest rest ++ take p.parties parties
