-- Document 01's sample cards hold: each by computation, and in general by the laws of what is held against itself.
use mathlib.Core.Path.{refl}
use Rattle.scope.specs.Computing.{computing}
use Rattle.scope.specs.Samples.{file_j, SampleCards}
use Rattle.scope.proofs.Itself.{contains_itself_and_does_not_intersect, equal_area_is_not_counted, infinite_area_is_not_counted, none_linked}

pub sample_cards : SampleCards
unfolding computing file_j
sample_cards =
    record {
      a = refl;
      b = refl;
      c = refl;
      d = refl;
      e = refl;
      e-apart = refl;
      e-any = contains_itself_and_does_not_intersect;
      f = refl;
      g = refl;
      g-any = equal_area_is_not_counted;
      h = refl;
      h-any = infinite_area_is_not_counted;
      g_h_alone = none_linked;
      i = refl;
      j = refl;
      k = refl;
    }
