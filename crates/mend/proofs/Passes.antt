-- The four passes are the one walk.
use Prim.Native.Nat.{ℕ}
use mathlib.Core.Path.{◌≡◌, refl, sym, ap, ◌∙◌, subst}
use mathlib.Core.Bool.{true, false, true≢false, cond, ◌&&◌, ◌||◌}
use mathlib.Core.Bool as bool
use mathlib.Core.List.{List, [], ◌∷◌, map}
use native.Mathlib.Omega.{arith}
use lib.Dec.{eqb}
use borrow.Author.Tests.{eqb-true, eqb-false}
use Rattle.whole.proofs.Tests.{by-test}
use Rattle.whole.specs.Digits.{is_digit}
use Rattle.mend.specs.declared.walk.Seen.{Seen}
use Rattle.mend.specs.Mended.{Fate, stays, goes, left, pass, last, next, parts_fields, spaces_on, digits_on, leads}
use Rattle.mend.specs.Mended.{stray_return, needless_space, needless_plus, needless_zero, fates}
use Rattle.mend.specs.OneWalk.{clean, at_start, staying, return_out, space_out, at_space, plus_out, at_plus, zero_met}
use Rattle.mend.specs.OneWalk.{at_leading_zero, at_zero, seen_with, fates_from}
use Rattle.mend.proofs.Sifted.{sift, left-pass, left-stays, sift-clean, space-next, both-next, both-digits}

-- what is left behind one, two and three passes
abbrev one : List ℕ → List ℕ → List Fate
one b1 s = pass 1 stray_return b1 (map stays s)

abbrev two : List ℕ → List ℕ → List ℕ → List Fate
two b1 b2 s = pass 2 needless_space b2 (one b1 s)

abbrev three : List ℕ → List ℕ → List ℕ → List ℕ → List Fate
three b1 b2 b3 s = pass 3 needless_plus b3 (two b1 b2 s)

abbrev four : List ℕ → List ℕ → List ℕ → List ℕ → List ℕ → List Fate
four b1 b2 b3 b4 s = pass 4 needless_zero b4 (three b1 b2 b3 s)

left_one : (b1 s : List ℕ) → left (one b1 s) ≡ clean s
left_one b1 s = left-pass 1 stray_return b1 (map stays s) ∙ ap (sift stray_return b1) (left-stays s) ∙ sift-clean b1 s

left-two : (b1 b2 s : List ℕ) → left (two b1 b2 s) ≡ sift needless_space b2 (clean s)
left-two b1 b2 s = left-pass 2 needless_space b2 (one b1 s) ∙ ap (sift needless_space b2) (left_one b1 s)

left-three : (b1 b2 b3 s : List ℕ) → left (three b1 b2 b3 s) ≡ sift needless_plus b3 (sift needless_space b2 (clean s))
left-three b1 b2 b3 s = left-pass 3 needless_plus b3 (two b1 b2 s) ∙ ap (sift needless_plus b3) (left-two b1 b2 s)

-- ---- the four passes and the walk, byte by byte

-- what the walk holds is what the passes see before a text
record Agrees (w : Seen) (b2 b3 b4 s : List ℕ) : Type 0 where
  two : w.two ≡ last b2
  three : w.three ≡ last b3
  four : w.four ≡ last b4
  lead : w.lead ≡ leads b4
  zeros : w.lead ≡ true → w.two ≡ 48 → w.zeros ≡ digits_on (clean s)

-- that both say the same of a text, wherever they stand
abbrev Same : List ℕ → Type 0
Same s = (w : Seen) (b1 b2 b3 b4 : List ℕ) → Agrees w b2 b3 b4 s → four b1 b2 b3 b4 s ≡ fates_from w s

module _ (s : List ℕ) (ih : Same s) where
  at_return : Same (13 ∷ s)
  unfolding pass fates_from seen_with clean
  at_return w b1 b2 b3 b4 h =
      ap (λ (l : List Fate). goes 1 13 ∷ l)
      (ih (return_out w) (13 ∷ b1) b2 b3 b4
      (record { two = h.two; three = h.three; four = h.four; lead = h.lead; zeros = h.zeros }))

  at-space : Same (32 ∷ s)
  unfolding pass fates_from seen_with clean at_space leads
  at-space w b1 b2 b3 b4 h =
      let e : (eqb w.two 32 || spaces_on (clean s)) ≡ (eqb (last b2) 32 || spaces_on (left (one (32 ∷ b1) s))) =
      rw (h.two, left_one (32 ∷ b1) s) in
      by-test (eqb (last b2) 32 || spaces_on (left (one (32 ∷ b1) s)))
      (λ t. rw (e ∙ t, t)
      (ap (λ (l : List Fate). goes 2 32 ∷ l)
      (ih (space_out w) (32 ∷ b1) (32 ∷ b2) b3 b4
      (record {
        two = refl;
        three = h.three;
        four = h.four;
        lead = h.lead;
        zeros = λ l z. absurd (omega arith);
      }))))
      (λ t. rw (e ∙ t, t)
      (ap (λ (l : List Fate). stays 32 ∷ l)
      (ih (staying 32 true) (32 ∷ b1) (32 ∷ b2) (32 ∷ b3) (32 ∷ b4)
      (record { two = refl; three = refl; four = refl; lead = refl; zeros = λ l z. absurd (omega arith) }))))

  at-plus : Same (43 ∷ s)
  unfolding pass fates_from seen_with clean at_plus leads
  at-plus w b1 b2 b3 b4 h =
      let e : (parts_fields w.three && is_digit (next (clean s)))
      ≡ (parts_fields (last b3) && is_digit (next (left (two (43 ∷ b1) (43 ∷ b2) s)))) =
      rw (h.three, left-two (43 ∷ b1) (43 ∷ b2) s, space-next (43 ∷ b2) (clean s) refl) in
      by-test (parts_fields (last b3) && is_digit (next (left (two (43 ∷ b1) (43 ∷ b2) s))))
      (λ t. rw (e ∙ t, t)
      (ap (λ (l : List Fate). goes 3 43 ∷ l)
      (ih (plus_out w) (43 ∷ b1) (43 ∷ b2) (43 ∷ b3) b4
      (record { two = refl; three = refl; four = h.four; lead = h.lead; zeros = λ l z. absurd (omega arith) }))))
      (λ t. rw (e ∙ t, t)
      (ap (λ (l : List Fate). stays 43 ∷ l)
      (ih (staying 43 false) (43 ∷ b1) (43 ∷ b2) (43 ∷ b3) (43 ∷ b4)
      (record { two = refl; three = refl; four = refl; lead = refl; zeros = λ l z. absurd (omega arith) }))))

  at_zero_lem : Same (48 ∷ s)
  unfolding pass fates_from seen_with clean at_zero at_leading_zero leads digits_on
  at_zero_lem w b1 b2 b3 b4 h =
      by-test (leads b4)
      (λ t.
      let z : cond (eqb w.two 48) w.zeros (digits_on (clean s)) ≡ digits_on (clean s) =
      by-test (eqb w.two 48) (λ q. rw q (h.zeros (h.lead ∙ t) (eqb-true _ _ q))) (λ q. rw q) in
      let l = left-three (48 ∷ b1) (48 ∷ b2) (48 ∷ b3) s in
      let d : digits_on (left (three (48 ∷ b1) (48 ∷ b2) (48 ∷ b3) s)) ≡ digits_on (clean s) =
      ap digits_on l ∙ both-digits (48 ∷ b2) (48 ∷ b3) (clean s) refl refl in
      let n : is_digit (next (left (three (48 ∷ b1) (48 ∷ b2) (48 ∷ b3) s))) ≡ is_digit (next (clean s)) =
      ap (λ (x : List ℕ). is_digit (next x)) l ∙ both-next (48 ∷ b2) (48 ∷ b3) refl refl (clean s) in
      by-test (digits_on (clean s) && is_digit (next (clean s)))
      (λ q. rw (h.lead ∙ t, t, z, d, n, q)
      (ap (λ (l : List Fate). goes 4 48 ∷ l)
      (ih (zero_met (digits_on (clean s)) 4) (48 ∷ b1) (48 ∷ b2) (48 ∷ b3) (48 ∷ b4)
      (record { two = refl; three = refl; four = refl; lead = sym t; zeros = λ l z. refl }))))
      (λ q. rw (h.lead ∙ t, t, z, d, n, q)
      (ap (λ (l : List Fate). stays 48 ∷ l)
      (ih (zero_met (digits_on (clean s)) 0) (48 ∷ b1) (48 ∷ b2) (48 ∷ b3) (48 ∷ b4)
      (record { two = refl; three = refl; four = refl; lead = sym t; zeros = λ l z. refl })))))
      (λ t. rw (h.lead ∙ t, t)
      (ap (λ (l : List Fate). stays 48 ∷ l)
      (ih (staying 48 false) (48 ∷ b1) (48 ∷ b2) (48 ∷ b3) (48 ∷ b4)
      (record { two = refl; three = refl; four = refl; lead = sym t; zeros = λ l z. absurd (true≢false (sym l)) }))))

  at-minus : Same (45 ∷ s)
  unfolding pass fates_from seen_with clean leads
  at-minus w b1 b2 b3 b4 h =
      ap (λ (l : List Fate). stays 45 ∷ l)
      (ih (staying 45 (parts_fields w.four)) (45 ∷ b1) (45 ∷ b2) (45 ∷ b3) (45 ∷ b4)
      (record {
        two = refl;
        three = refl;
        four = refl;
        lead = ap parts_fields h.four;
        zeros = λ l z. absurd (omega arith);
      }))

  at_other : (b : ℕ) → eqb b 13 ≡ false → eqb b 32 ≡ false → eqb b 43 ≡ false → eqb b 48 ≡ false → eqb b 45 ≡ false
      → Same (b ∷ s)
  unfolding pass fates_from seen_with clean leads
  at_other b e13 e32 e43 e48 e45 w b1 b2 b3 b4 h =
      simp (e13, e32, e43, e48, e45)
      (ap (λ (l : List Fate). stays b ∷ l)
      (ih (staying b (eqb b 10)) (b ∷ b1) (b ∷ b2) (b ∷ b3) (b ∷ b4)
      (record {
        two = refl;
        three = refl;
        four = refl;
        lead = simp (e48, e45, e32) (sym (bool.or-false (eqb b 10)));
        zeros = λ l z. absurd (eqb-false b 48 e48 z);
      })))

same : (s : List ℕ) → Same s
unfolding pass fates_from
same [] = λ w b1 b2 b3 b4 h. refl
same (b ∷ s) =
    by-test (eqb b 13) (λ t. subst (λ (x : ℕ). Same (x ∷ s)) (sym (eqb-true b 13 t)) (at_return s (same s))) (λ e13.
    by-test (eqb b 32) (λ t. subst (λ (x : ℕ). Same (x ∷ s)) (sym (eqb-true b 32 t)) (at-space s (same s))) (λ e32.
    by-test (eqb b 43) (λ t. subst (λ (x : ℕ). Same (x ∷ s)) (sym (eqb-true b 43 t)) (at-plus s (same s))) (λ e43.
    by-test (eqb b 48) (λ t. subst (λ (x : ℕ). Same (x ∷ s)) (sym (eqb-true b 48 t)) (at_zero_lem s (same s))) (λ e48.
    by-test (eqb b 45) (λ t. subst (λ (x : ℕ). Same (x ∷ s)) (sym (eqb-true b 45 t)) (at-minus s (same s)))
    (λ e45. at_other s (same s) b e13 e32 e43 e48 e45)))))

pub fates-walked : (s : List ℕ) → fates s ≡ fates_from at_start s
unfolding fates leads
fates-walked s =
    same s at_start [] [] [] []
    (record { two = refl; three = refl; four = refl; lead = refl; zeros = λ l z. absurd (omega arith) })
