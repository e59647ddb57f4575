-- What was read so far of a text, and the laws of one line more: the count of a section, an entry of it, and the end.
use Prim.Native.Nat.{ℕ, zero, suc, ◌+◌, ◌-◌, ◌*◌, ◌≤◌, ◌<◌}
use mathlib.Core.Path.{◌≡◌, refl, ap, ◌∙◌, sym, subst}
use mathlib.Core.List.{List, [], ◌∷◌, ◌++◌, map}
use native.Mathlib.Omega.{arith}
use native.Mathlib.Numerals.{add-one}
use mathlib.Core.Bool.{Bool, true, false}
use lib.IntN.{ℤ, pos}
use lib.ListN.{length, get_or, drop, drop_of_length-le}
use lib.Seq.{drop-cons}
use Rattle.std.specs.Prelude.{Result}
use Rattle.whole.specs.Lists.{first_of}
use Rattle.whole.proofs.Lists.{first_of-length}
use Rattle.verdict.specs.declared.Verdict.{Verdict}
use Rattle.verdict.specs.Verdict.{refusal}
use Rattle.lines.specs.declared.Line.{Line}
use Rattle.lines.specs.Lines.{lines_in}
use Rattle.lines.specs.Held.{held, line_at}
use Rattle.lines.proofs.Lines.{rows-some, rows_end}
use Rattle.entry.specs.Flat.{flat_faces}
use Rattle.entry.specs.Says.{size, at}
use Rattle.rules.specs.declared.Before.{Before}
use Rattle.rules.specs.declared.Section.{Section}
use Rattle.rules.specs.declared.Section.TheVariants.{«V», B}
use Rattle.rules.specs.declared.Kind.{Kind}
use Rattle.rules.specs.declared.Kind.TheVariants.{Count, Entry}
use Rattle.rules.specs.Sections.{about, sections, section_at, line_fault}
use Rattle.job.specs.Carried.{Carried, no_step, nothing, lowest_of, before, most_faces, recorded}
use Rattle.job.specs.Walk.{entries, calls, learn, Reading, Accepted, Refused, walk, sheet}
use Rattle.job.proofs.Room.{most-roomed}
use Rattle.sheet.specs.declared.read.Head.{Head}
use Rattle.sheet.specs.Head.{head_of, faces_read}
use Rattle.sheet.specs.Sheet.{reading}
use Rattle.sheet.proofs.Longest.{count_most}
use Rattle.sheet.proofs.OneMore.{Kept, kept_of, stored, count_in, stored-keeps, next_before, most-kept}
use Rattle.sheet.proofs.OneMore.{lowest-recorded, next-judges, one_more, Unread, none-later}
use Rattle.sheet.proofs.Steps.{walk-stop, walk-go}

-- s is read up to line `line`, which begins at `next`: k is what is kept of all that was carried, in a list of length
-- `lent`, and what comes of the rest is what comes of s;
-- `left` entries of a section are still called for, and then the sections after the first `begun`, with heights or
-- without
pub record ReadSoFar (lent : ℕ) (s : List ℕ) (h : Bool) (sec : Section) (left begun : ℕ) (b : Before) (k : Kept)
    (line next : ℕ) : Type 0 where
  pub carries : Carried
  pub keeps : k ≡ kept_of lent carries
  -- what the next line is judged by
  pub judges : b ≡ before carries
  pub rest : walk (entries sec left ++ map Count (drop begun (sections h))) carries line (lines_in (drop next s))
      ≡ reading s
  pub room : count_in k sec + left ≤ (about sec).most b.year
  pub unread : Unread k (drop begun (sections h))
  -- no section has more lines than a record has room for faces, and one
  pub lines : line + left ≤ (most_faces + 1) * begun + 1

-- nothing read yet
pub read-start : (lent : ℕ) (s : List ℕ) (h : Bool) {b : Before} {k : Kept}
    → walk (sheet h) nothing 1 (lines_in s) ≡ reading s
    → b ≡ before nothing → k ≡ kept_of lent nothing → ReadSoFar lent s h B 0 0 b k 1 0
unfolding recorded
read-start lent s h {k = k} r u e =
    record {
      carries = nothing;
      keeps = e;
      judges = u;
      rest = r;
      room = omega arith;
      unread = rw e (none h);
      lines = omega arith;
    }
  where
    none : (h : Bool) → Unread (kept_of lent nothing) (sections h)
    none true = (refl, (refl, (refl, (refl, (refl, (refl, tt))))))
    none false = (refl, (refl, (refl, (refl, tt))))

-- ---- one line more

-- x is the line at `next`, and f its fault as a line of kind k
module _
    (s : List ℕ) (k : Kind) (ks : List Kind) {b : Before} (c : Carried) (e : b ≡ before c) (line next : ℕ) {x : Line}
    (hx : x ≡ line_at s next)
    {f : ℕ} (hf : f ≡ line_fault k b (held x))
    (rest : walk (k ∷ ks) c line (lines_in (drop next s)) ≡ reading s) where
  fault-is : f ≡ line_fault k (before c) (held x)
  fault-is = hf ∙ ap (λ (d : Before). line_fault k d (held x)) e

  line-stops : (f ≡ 0 → ⊥) → reading s ≡ Refused (refusal f line)
  line-stops h = sym rest ∙ walk-stop k ks c line s next x hx f fault-is h

  line-goes : f ≡ 0
      → walk (calls k (held x) ++ ks) (learn k (held x) c) (line + 1) (lines_in (drop x.next s)) ≡ reading s
  line-goes z = sym (walk-go k ks c line s next x hx f fault-is z) ∙ rest

-- ---- the count of the next section

module _ {lent : ℕ} {s : List ℕ} {h : Bool} {sec : Section} {i : ℕ} {b : Before} {k : Kept} {line next : ℕ}
    (r : ReadSoFar lent s h sec 0 i b k line next)
    (few : i < length (sections h)) {x : Line} (hx : x ≡ line_at s next) {f : ℕ}
    (hf : f ≡ line_fault (Count (section_at h i)) b (held x)) where
  abbrev later : List Section
  later = drop (suc i) (sections h)

  next-section : drop i (sections h) ≡ section_at h i ∷ later
  next-section = drop-cons (sections h) i «V» few

  count-called : walk (Count (section_at h i) ∷ map Count later) r.carries line (lines_in (drop next s)) ≡ reading s
  count-called = rw next-section at r.rest

  pub count-stops : (f ≡ 0 → ⊥) → reading s ≡ Refused (refusal f line)
  count-stops =
      line-stops s (Count (section_at h i)) (map Count later) r.carries r.judges line next hx hf count-called

  count-on : f ≡ 0 → {left : ℕ} → left ≡ size (at (held x) 1)
      → ReadSoFar lent s h (section_at h i) left (suc i) b k (line + 1) x.next
  count-on z {left} hl =
      let u : Unread k (section_at h i ∷ later) = rw next-section at r.unread in
      let m : left ≤ (about (section_at h i)).most b.year =
      rw hl (count_most (section_at h i) b (held x) (sym hf ∙ z)) in
      record {
        carries = r.carries;
        keeps = r.keeps;
        judges = r.judges;
        rest =
            rw hl
            (line-goes s (Count (section_at h i)) (map Count later) r.carries
            r.judges line next hx hf count-called z);
        room = omega (arith, u.0);
        unread = u.1;
        lines = omega (arith, r.lines, most-roomed b.year (section_at h i));
      }

  pub count-read : f ≡ 0 → {left : ℕ} → left ≡ size (at (held x) 1) → {after : ℕ} → after ≡ x.next
      → ReadSoFar lent s h (section_at h i) left (suc i) b k (line + 1) after
  count-read z {left} hl e =
      subst (λ (n : ℕ). ReadSoFar lent s h (section_at h i) left (suc i) b k (line + 1) n) (sym e) (count-on z hl)

-- ---- an entry of the section

entries_next : (t : Section) (n : ℕ) → (n ≡ 0 → ⊥) → entries t n ≡ Entry t ∷ entries t (n - 1)
entries_next t zero h = absurd (h refl)
entries_next t (suc n) h =
    let q : suc n - 1 ≡ n = omega arith in
    rw q

module _ {lent : ℕ} {s : List ℕ} {h : Bool} {left i : ℕ} {b : Before} {k : Kept} {line next : ℕ}
    (r : ReadSoFar lent s h (section_at h i) left (suc i) b k line next)
    (more : left ≡ 0 → ⊥) where
  abbrev behind : List Kind
  behind = entries (section_at h i) (left - 1) ++ map Count (drop (suc i) (sections h))

  entry-called : walk (Entry (section_at h i) ∷ behind) r.carries line (lines_in (drop next s)) ≡ reading s
  entry-called = rw (entries_next (section_at h i) left more) at r.rest

  pub entry-stops : {x : Line} → x ≡ line_at s next → {f : ℕ}
      → f ≡ line_fault (Entry (section_at h i)) b (held x) → (f ≡ 0 → ⊥)
      → reading s ≡ Refused (refusal f line)
  entry-stops hx hf = line-stops s (Entry (section_at h i)) behind r.carries r.judges line next hx hf entry-called

-- x, the line that begins at `next`, is an entry in order of the section that was begun last
pub record EntryLine (lent : ℕ) (s : List ℕ) (h : Bool) (left i : ℕ) (b : Before) (k : Kept) (line next : ℕ)
    (x : Line) : Type 0 where
  pub so-far : ReadSoFar lent s h (section_at h i) left (suc i) b k line next
  pub more : left ≡ 0 → ⊥
  pub is : x ≡ line_at s next
  pub in_order : 0 ≡ line_fault (Entry (section_at h i)) b (held x)

module _ {lent : ℕ} {s : List ℕ} {h : Bool} {left i : ℕ} {b : Before} {k : Kept} {line next : ℕ} {x : Line}
    (o : EntryLine lent s h left i b k line next x) where
  abbrev here : Carried
  here = o.so-far.carries

  -- the section has room for it
  pub entry-room : {t : Section} → section_at h i ≡ t → count_in k t < (about t).most b.year
  entry-room is-t =
      subst (λ (v : Section). count_in k v < (about v).most b.year) is-t (omega (arith, o.so-far.room, o.more))

  -- stored, it is kept of what is then carried
  pub entry-stored : {t : Section} → section_at h i ≡ t
      → stored t (held x) k ≡ kept_of lent (learn (Entry (section_at h i)) (held x) here)
  entry-stored {t} is-t = rw is-t (stored-keeps lent (held x) here o.so-far.keeps t)

  -- the next line, with the entry stored, and z the lowest height that is then recorded
  entry-on : {t : Section} {z : ℤ} → section_at h i ≡ t
      → z ≡ (get_or (stored t (held x) k).setting.profile.entry 0 no_step).height
      → ReadSoFar lent s h (section_at h i) (left - 1) (suc i) (next_before t (held x) z b) (stored t (held x) k)
      (line + 1) x.next
  entry-on {t} {z} is-t lowest =
      let r = o.so-far in
      let e = entry-stored is-t in
      let p : count_in (kept_of lent here) (section_at h i) + left ≤ (about (section_at h i)).most b.year =
      rw r.keeps at r.room in
      let m : (about (section_at h i)).most (next_before t (held x) z b).year ≡ (about (section_at h i)).most b.year =
      rw is-t (most-kept t (held x) z b) in
      let u : Unread (kept_of lent here) (drop (suc i) (sections h)) = rw r.keeps at r.unread in
      let d = learn (Entry (section_at h i)) (held x) here in
      let low : z ≡ lowest_of d.profile =
      lowest ∙ ap (λ (k : Kept). (get_or k.setting.profile.entry 0 no_step).height) e ∙ lowest-recorded d in
      record {
        carries = d;
        keeps = e;
        judges =
            ap (λ (v : Section). next_before v (held x) z b) (sym is-t)
            ∙ ap (next_before (section_at h i) (held x) z) r.judges
            ∙ next-judges (section_at h i) (held x) here z low;
        rest =
            line-goes s (Entry (section_at h i)) (behind r o.more) here r.judges line next o.is o.in_order
            (entry-called r o.more) refl;
        room = rw e (omega (arith, m, o.more, one_more lent (section_at h i) here (held x)));
        unread = rw e (none-later lent h i here (held x) u);
        lines = omega (arith, o.more, r.lines);
      }

  pub entry_read : {t : Section} {z : ℤ} {after : ℕ} → section_at h i ≡ t
      → z ≡ (get_or (stored t (held x) k).setting.profile.entry 0 no_step).height → after ≡ x.next
      → ReadSoFar lent s h (section_at h i) (left - 1) (suc i) (next_before t (held x) z b) (stored t (held x) k)
      (line + 1) after
  entry_read {t} {z} is-t lowest e =
      subst
      (λ (n : ℕ). ReadSoFar lent s h (section_at h i) (left - 1) (suc i) (next_before t (held x) z b)
      (stored t (held x) k) (line + 1) n)
      (sym e) (entry-on is-t lowest)

-- ---- the end of a section, and of the sheet

pub section-end : {lent : ℕ} {s : List ℕ} {h : Bool} {sec : Section} {left i : ℕ} {b : Before} {k : Kept}
    {line next : ℕ} → ReadSoFar lent s h sec left (suc i) b k line next → left ≡ 0
    → ReadSoFar lent s h sec 0 (i + 1) b k line next
section-end r z = rw add-one (rw z at r)

module _ {lent : ℕ} {s : List ℕ} {h : Bool} {sec : Section} {i : ℕ} {b : Before} {k : Kept} {line next : ℕ}
    (r : ReadSoFar lent s h sec 0 i b k line next)
    (all : i ≡ length (sections h)) where
  nothing-called : walk [] r.carries line (lines_in (drop next s)) ≡ reading s
  nothing-called = rw (drop_of_length-le (sections h) {i = i} (omega arith)) at r.rest

  pub end-extra : next < length s → reading s ≡ Refused (refusal 1 line)
  unfolding walk
  end-extra h = sym nothing-called ∙ (let t = rows-some s next h in rw t.2)

  pub end-accepted : length s ≤ next → reading s ≡ Accepted r.carries
  unfolding walk
  end-accepted h = sym nothing-called ∙ rw (rows_end s next h)

-- ---- what is handed back, told of the reading z of the text and the length n of the lent list

module _ {w z : Reading} (e : z ≡ w) {m n : ℕ} (same : m ≡ n) {after : List ℤ}
    (list : after ≡ first_of (pos 0) m (flat_faces (faces_read w))) where
  pub told-as : {r : Result Head Verdict} → r ≡ head_of w
      → (r ≡ head_of z) × (after ≡ first_of (pos 0) n (flat_faces (faces_read z)))
  told-as head =
      (head ∙ ap head_of (sym e), list ∙ (λ i. first_of (pos 0) (same i) (flat_faces (faces_read (sym e i)))))

  pub as-long-as : length after ≡ n
  as-long-as = ap length list ∙ first_of-length (pos 0) m (flat_faces (faces_read w)) ∙ same
