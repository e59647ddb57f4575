-- Item 13 of paper 02: wind roses.
use mathlib.Core.Path.{◌≡◌, refl, sym, ap, ◌∙◌, subst}
use mathlib.Core.Bool.{false}
use mathlib.Core.List.{List, ◌∷◌}
use Prim.Native.Nat.{ℕ}
use native.Mathlib.Omega.{arith}
use lib.Dec.{eqb}
use lib.ListN.{length}
use borrow.Author.Tests.{eq-eqb, eqb-true}
use Rattle.whole.specs.Lists.{joined}
use Rattle.whole.proofs.Tests.{by-test}
use Rattle.verdict.specs.Verdict.{Refuses}
use Rattle.field.specs.declared.Field.{Field}
use Rattle.lines.specs.Lines.{lines_in}
use Rattle.lines.specs.Held.{until}
use Rattle.rose.specs.declared.Rose.{Rose}
use Rattle.rose.specs.Observation.{Said}
use Rattle.std.specs.Prelude.{Ok, Err}
use Rattle.rose.specs.declared.Misread.TheVariants.{OutOfForm, OutOfRange}
use Rattle.rose.specs.Observation.{line_says}
use Rattle.rose.specs.StandsIn.{StandsIn}
use Rattle.rose.specs.Rose.{no_bytes, no_lines, refused_at, rose_of}
use Rattle.rose.specs.IsRose.{cell_sum, in_cell, IsRose}
use Rattle.rose.specs.Taken.{part_taken, end_taken}
use Rattle.rose.proofs.Taken.{parts_taken, part-closed, end-closed, end-closes}
use Rattle.rose.proofs.LastLine as last
use Rattle.rose.proofs.Closing.{refused-closed}
use Rattle.rose.proofs.ByLines.{parts-file, parts-rose}
use Rattle.rose.proofs.Sums.{sums-taken}
use Rattle.rose.proofs.Counting.{rose-is, same-accepted, same-cells, same-verdict}
use Rattle.rose.proofs.Standing.{line-stands, stands-says}
use Rattle.claims.specs.Contract.{Always}
use Rattle.claims.proofs.Contracts as of
use Rattle.claims.proofs.InParts.{Takes, parts_are}

-- ---- the statements

-- a rose that parts were taken by, from a new one on
abbrev pub UnderWay : (List (List ℕ) → Rose → Type 0) → Type 0
UnderWay So = Always of.aral-rose-new.Post (λ κ a r s. (ps : List (List ℕ)) (q : Rose) → Takes r ps q → So ps q)

-- and then the end of the file
abbrev pub AtEnd : (List (List ℕ) → Rose → Type 0) → Type 0
AtEnd So = UnderWay (λ ps q. Always of.aral-rose-end.Post (λ κ a r s. a.0 ≡ q → So ps r))

-- "The file arrives from the logger in parts; any cutting, also inside a number or with nothing in a part, gives the
-- same counts and the same end": the rose of the file as a whole; and two cuttings of one text come to one rose,
-- before the end too and from whatever record on
pub record AnyCuttingSame : Type 0 where
  pub whole : AtEnd (λ ps r. r ≡ rose_of (joined ps))
  pub cuttings : (r u v : Rose) (ps qs : List (List ℕ)) → joined ps ≡ joined qs → Takes r ps u → Takes r qs v → u ≡ v

-- "Count them ..", "Refusals: form 1, then range 3, then 11 for a good line after 1,000,000 accepted ones, each with
-- line number, and the rose stays at the line before": IsRose says which lines are accepted, in which cells they are
-- counted, and which one is refused, with its number and line; it leaves no choice of counts and verdict
pub record CountsLines : Type 0 where
  pub counts : AtEnd (λ ps r. IsRose (lines_in (joined ps)) r)
  pub only : (ls : List (List Field)) (q r : Rose) → IsRose ls q → IsRose ls r
      → (q.accepted ≡ r.accepted) × (q.cell ≡ r.cell) × (q.verdict ≡ r.verdict)

-- "by 16 sectors, the first centred on north and each reaching 11.25 degrees to either side, and by Beaufort number
-- from table 2.2.2.2.1, calms under their written direction": a line is counted where it stands, and nowhere else
pub record CountedWhereItStands : Type 0 where
  pub there : (l : List Field) (k : ℕ) → StandsIn l k → in_cell k (line_says l) ≡ 1
  pub only : (l : List Field) (k : ℕ) → in_cell k (line_says l) ≡ 1 → StandsIn l k

-- "The sum over all cells equals the number of accepted lines", at any time
pub record CellsAddUp : Type 0 where
  pub before : UnderWay (λ ps q. cell_sum q.cell ≡ q.accepted)
  pub after : AtEnd (λ ps r. cell_sum r.cell ≡ r.accepted)

-- "A line is judged at its LF; one unfinished at the end of the file counts for nothing and is a form fault": behind
-- whole lines, bytes without LF and then the end
abbrev pub UnfinishedRefused : Type 0
UnfinishedRefused = UnderWay (λ ps q. q.closed ≡ 0 → q.pending ≡ no_bytes
    → Always of.aral-rose-take.Post (λ κ a u s. (b : ℕ) (l : List ℕ) → a.0 ≡ q → a.1.0.now ≡ b ∷ l
    → until 10 (b ∷ l) ≡ length (b ∷ l)
    → Always of.aral-rose-end.Post (λ κ' c r t. c.0 ≡ u → r ≡ refused_at q.cell q.accepted 1)))

-- "from then on, and after the end, nothing more is taken and the same answer is given"
abbrev pub TakesNoMore : Rose → Type 0
TakesNoMore x =
    Always of.aral-rose-take.Post (λ κ a r s. a.0 ≡ x → r ≡ x)
    × Always of.aral-rose-end.Post (λ κ a r s. a.0 ≡ x → r ≡ x)

pub record NothingMore : Type 0 where
  pub refused : UnderWay (λ ps q. Refuses q.verdict → TakesNoMore q)
  pub ended : AtEnd (λ ps r. TakesNoMore r)

-- ---- the proofs

-- what the definitions say of the parts
under-way : (So : List (List ℕ) → Rose → Type 0) → ((ps : List (List ℕ)) → So ps (parts_taken no_lines ps))
    → UnderWay So
under-way So h κ a r s new ps q t =
    subst (So ps) (sym (parts_are r q ps t ∙ ap (λ (x : Rose). parts_taken x ps) new)) (h ps)

at-end : (So : List (List ℕ) → Rose → Type 0) → ((ps : List (List ℕ)) → So ps (end_taken (parts_taken no_lines ps)))
    → AtEnd So
at-end So h =
    under-way (λ ps q. Always of.aral-rose-end.Post (λ κ a r s. a.0 ≡ q → So ps r))
    (λ ps κ a r s end is. subst (So ps) (sym (end ∙ ap end_taken is)) (h ps))

pub any-cutting-same : AnyCuttingSame
any-cutting-same =
    record {
      whole = at-end (λ ps r. r ≡ rose_of (joined ps)) parts-rose;
      cuttings = λ r u v ps qs e t w.
          parts_are r u ps t
          ∙ parts-file r ps
          ∙ ap (part_taken r) e
          ∙ sym (parts_are r v qs w ∙ parts-file r qs);
    }

pub counts-lines : CountsLines
counts-lines =
    record {
      counts = at-end (λ ps r. IsRose (lines_in (joined ps)) r)
          (λ ps. subst (IsRose (lines_in (joined ps))) (sym (parts-rose ps)) (rose-is (joined ps)));
      only = λ ls q r a b. (same-accepted ls q r a b, same-cells ls q r a b, same-verdict ls q r a b);
    }

pub cells-add-up : CellsAddUp
cells-add-up =
    record {
      before = under-way (λ ps q. cell_sum q.cell ≡ q.accepted) (λ ps. (sums-taken ps).0.sum);
      after = at-end (λ ps r. cell_sum r.cell ≡ r.accepted) (λ ps. (sums-taken ps).1.sum);
    }

-- a line is counted in the cell that it says
says_there : (k : ℕ) {x : Said} → x ≡ Ok k → in_cell k x ≡ 1
says_there k e = rw e (rw (eq-eqb k k refl))

there-says : (k : ℕ) (x : Said) → in_cell k x ≡ 1 → x ≡ Ok k
there-says k (Err OutOfForm) e = absurd (omega arith)
there-says k (Err OutOfRange) e = absurd (omega arith)
there-says k (Ok j) e =
    by-test (eqb j k) (λ t. ap Ok (eqb-true j k t)) (λ t. absurd (let z = rw t at e in omega arith))

pub counted-where-it-stands : CountedWhereItStands
counted-where-it-stands =
    record {
      there = λ l k h. says_there k (stands-says l h);
      only = λ l k h. line-stands l (there-says k (line_says l) h);
    }

pub unfinished-refused : UnfinishedRefused
unfinished-refused κ n x y new ps q way o none κ' a u s p b l from part lf κ'' c r t end is =
    end
    ∙ ap end_taken (is ∙ p ∙ (λ i. part_taken (from i) (part i)))
    ∙ last.unfinished-refused q o none b l lf

closed-takes-no-more : (x : Rose) → eqb x.closed 0 ≡ false → TakesNoMore x
closed-takes-no-more x c = (
  λ κ a r s p e. p ∙ ap (λ (y : Rose). part_taken y a.1.0.now) e ∙ part-closed x a.1.0.now c,
  λ κ a r s p e. p ∙ ap end_taken e ∙ end-closed x c,
)

pub nothing-more : NothingMore
nothing-more =
    record {
      refused = under-way (λ ps q. Refuses q.verdict → TakesNoMore q)
          (λ ps h. closed-takes-no-more (parts_taken no_lines ps) (refused-closed ps h));
      ended = at-end (λ ps r. TakesNoMore r)
          (λ ps. closed-takes-no-more (end_taken (parts_taken no_lines ps)) (end-closes (parts_taken no_lines ps)));
    }
