-- Laws of one step, as the code tells the ways apart.
use Prim.Native.Nat.{ℕ}
use mathlib.Core.Path.{◌≡◌}
use mathlib.Core.Bool.{Bool, true, false, ◌||◌}
use mathlib.Core.List.{List}
use lib.Dec.{eqb}
use borrow.Author.Tests.{eq-eqb, ne_eqb}
use Rattle.mend.specs.declared.walk.Seen.{Seen}
use Rattle.mend.specs.Mended.{parts_fields, spaces_on, digits_on}
use Rattle.mend.specs.OneWalk.{staying, return_out, space_out, at_space, at_plus, at_leading_zero, at_zero, seen_with}

module _ (w : Seen) (s : List ℕ) where
  pub space-out : (eqb w.two 32 || spaces_on s) ≡ true → space_out w ≡ at_space w s
  unfolding at_space
  space-out e = rw e

  pub space-stays : (eqb w.two 32 || spaces_on s) ≡ false → staying 32 true ≡ at_space w s
  unfolding at_space
  space-stays e = rw e

  pub zero-inside : w.lead ≡ false → staying 48 false ≡ at_zero w s
  unfolding at_zero
  zero-inside e = rw e

  module _ (e : w.lead ≡ true) where
    pub zero-again : w.two ≡ 48 → at_leading_zero w.zeros s ≡ at_zero w s
    unfolding at_zero
    zero-again f = rw (e, eq-eqb w.two 48 f)

    pub zero-first : (w.two ≡ 48 → ⊥) → (d : Bool) → d ≡ digits_on s → at_leading_zero d s ≡ at_zero w s
    unfolding at_zero
    zero-first f d h = rw (e, ne_eqb w.two 48 f, h)

  module _ (b : ℕ) where
    pub after-return : b ≡ 13 → return_out w ≡ seen_with w b s
    unfolding seen_with
    after-return e = rw e

    pub after-space : b ≡ 32 → at_space w s ≡ seen_with w b s
    unfolding seen_with
    after-space e = rw e

    pub after_plus : b ≡ 43 → at_plus w s ≡ seen_with w b s
    unfolding seen_with
    after_plus e = rw e

    pub after-zero : b ≡ 48 → at_zero w s ≡ seen_with w b s
    unfolding seen_with
    after-zero e = rw e

    pub after_minus : b ≡ 45 → (l : Bool) → l ≡ parts_fields w.four → staying 45 l ≡ seen_with w b s
    unfolding seen_with
    after_minus e l h = rw (e, h)

    pub after-other : (b ≡ 13 → ⊥) → (b ≡ 32 → ⊥) → (b ≡ 43 → ⊥) → (b ≡ 48 → ⊥) → (b ≡ 45 → ⊥) → (l : Bool)
        → l ≡ parts_fields b → staying b l ≡ seen_with w b s
    unfolding seen_with
    after-other r p q z m l h = rw (ne_eqb b 13 r, ne_eqb b 43 q, ne_eqb b 48 z, ne_eqb b 45 m, h) (rw (ne_eqb b 32 p))
