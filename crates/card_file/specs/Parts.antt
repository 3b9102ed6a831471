-- Where a part of lent bytes lies: a reference points to a place in a block of memory.
use Rattle.std.specs.Prelude.{ℕ, ◌+◌, ◌≡◌, cond, List, eqb, drop}
use Rattle.std.specs.Borrow.{Bor}
use Rattle.scope.specs.CardFile.{head_length, field_refusal}

-- the part starts that many bytes into the whole
pub record StartsAt (whole : Bor (List ℕ)) (k : ℕ) (part : Bor (List ℕ)) : Type 0 where
  pub block : part.ref_ptr.0 ≡ whole.ref_ptr.0
  pub offset : part.ref_ptr.1 ≡ k + whole.ref_ptr.1

-- a body starts after its head, and the empty part of a refusal with the file
abbrev pub body_place : List ℕ → ℕ → ℕ
body_place file at = cond (eqb (field_refusal (drop at file)) 0) (at + head_length) 0
