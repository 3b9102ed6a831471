-- The turns of a walked loop that counts up to an end: each but the last comes nearer to it.
use Prim.Native.Nat.{ℕ, ◌-◌, ◌<◌, ◌≤◌}
use mathlib.Core.WellFounded.InvImage
use mathlib.Core.WellFounded.{WellFounded}
use lib.WfN.{lt-wf_rel}

module _ (end : ℕ) where
  abbrev pub Upto : Type 0
  Upto = (i : ℕ) × (i ≤ end)

  abbrev pub Nearer : Upto → Upto → Type 0
  Nearer j i = end - j.0 < end - i.0

  pub nearer_ends : WellFounded Nearer
  nearer_ends = InvImage.wf (λ (i : Upto). end - i.0) lt-wf_rel.wf
