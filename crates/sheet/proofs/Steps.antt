-- Laws of a line read: the walk from a place of the text on, by the fault of the line that begins there.
use Prim.Native.Nat.{ℕ, ◌+◌}
use mathlib.Core.Path.{◌≡◌, ap, ◌∙◌, sym}
use mathlib.Core.List.{List, [], ◌∷◌, ◌++◌}
use native.Mathlib.Omega.{arith}
use lib.Dec.{eqb}
use lib.ListN.{drop}
use Rattle.verdict.specs.Verdict.{refusal}
use Rattle.field.specs.declared.Field.{Field}
use Rattle.field.specs.declared.Field.TheVariants.{Bad}
use Rattle.lines.specs.declared.Line.{Line}
use Rattle.lines.specs.Lines.{lines_in}
use Rattle.lines.specs.Held.{held, line_at}
use Rattle.lines.proofs.Held.{At, taken, gone, unended, long, at-is}
use Rattle.rules.specs.declared.Kind.{Kind}
use Rattle.job.specs.Carried.{Carried, nothing, before}
use Rattle.entry.specs.Says.{letter, at}
use Rattle.rules.specs.declared.Section.TheVariants.{«V»}
use Rattle.rules.specs.Sections.{about, line_fault}
use Rattle.job.specs.Walk.{calls, learn, Refused, walk, opening, sheet, read_lines}
use Rattle.job.proofs.Walk.{walk-on, walk_refused}
use Rattle.sheet.specs.Sheet.{reading}
use Rattle.sheet.proofs.OutOfForm.{bad-first, none-held, many-held}
use Rattle.sheet.proofs.Part.{no_line}

-- x is the line that begins at p, and f its fault as a line of kind k
module _
    (k : Kind) (ks : List Kind) (c : Carried) (n : ℕ) (s : List ℕ) (p : ℕ) (x : Line) (hx : x ≡ line_at s p)
    (f : ℕ) (hf : f ≡ line_fault k (before c) (held x)) where
  f-one : held x ≡ [] → f ≡ 1
  f-one e = hf ∙ ap (line_fault k (before c)) e ∙ none-held k (before c)

  refused-at : (y : List Field) (ys : List (List Field)) → f ≡ line_fault k (before c) y → (f ≡ 0 → ⊥)
      → walk (k ∷ ks) c n (y ∷ ys) ≡ Refused (refusal f n)
  refused-at y ys e h = walk_refused k ks c n y ys (λ z. h (e ∙ z)) ∙ ap (λ (g : ℕ). Refused (refusal g n)) (sym e)

  missing : f ≡ 1 → walk (k ∷ ks) c n [] ≡ Refused (refusal f n)
  unfolding walk
  missing e = rw e

  pub walk-stop : (f ≡ 0 → ⊥) → walk (k ∷ ks) c n (lines_in (drop p s)) ≡ Refused (refusal f n)
  walk-stop h = go (at-is s p x hx)
    where
      go : At s p x → walk (k ∷ ks) c n (lines_in (drop p s)) ≡ Refused (refusal f n)
      go (taken e) = rw e (refused-at (held x) (lines_in (drop x.next s)) hf h)
      go (gone eh e) = rw e (missing (f-one eh))
      go (unended eh e) = rw e (refused-at (Bad ∷ []) [] (f-one eh ∙ sym (bad-first k (before c))) h)
      go (long fs rest eh e m) = rw e (refused-at fs rest (f-one eh ∙ sym (many-held k (before c) fs m)) h)

  pub walk-go : f ≡ 0
      → walk (k ∷ ks) c n (lines_in (drop p s)) ≡ walk (calls k (held x) ++ ks) (learn k (held x) c) (n + 1)
      (lines_in (drop x.next s))
  walk-go h = go (at-is s p x hx)
    where
      go : At s p x
          → walk (k ∷ ks) c n (lines_in (drop p s)) ≡ walk (calls k (held x) ++ ks) (learn k (held x) c) (n + 1)
          (lines_in (drop x.next s))
      go (taken e) = rw e (walk-on k ks c n (held x) (lines_in (drop x.next s)) (sym hf ∙ h))
      go (gone eh e) = absurd (omega (arith, f-one eh))
      go (unended eh e) = absurd (omega (arith, f-one eh))
      go (long fs rest eh e m) = absurd (omega (arith, f-one eh))

-- x is the first line: its first field opens the sheet, and where it is too long for a line it is refused either way
pub walk-opened : (s : List ℕ) (x : Line) → x ≡ line_at s 0
    → walk (sheet (eqb (letter (at (held x) 0)) (about «V»).letter)) nothing 1 (lines_in s) ≡ reading s
unfolding reading read_lines
walk-opened s x hx = go (at-is s 0 x hx)
  where
    go : At s 0 x
        → walk (sheet (eqb (letter (at (held x) 0)) (about «V»).letter)) nothing 1 (lines_in s)
        ≡ walk (sheet (opening (lines_in s))) nothing 1 (lines_in s)
    go (taken e) = rw e
    go (gone eh e) = rw (eh, e)
    go (unended eh e) = rw (eh, e)
    go (long fs rest eh e m) =
        rw e
        (no_line (sheet (eqb (letter (at (held x) 0)) (about «V»).letter)) nothing 1 fs rest
        (λ k b. many-held k b fs m)
        ∙ sym (no_line (sheet (opening (fs ∷ rest))) nothing 1 fs rest (λ k b. many-held k b fs m)))
