-- An edit that is not refused leaves a job that is accepted, and what its sheet carries is what was carried with its
-- faces edited.
use mathlib.Core.Path.{◌≡◌, refl, sym, ap, ap₂, ◌∙◌, subst}
use mathlib.Core.Logic.{inl, inr, ⊎_elim}
use mathlib.Core.Bool.{Bool, true, false, true≢false}
use mathlib.Core.List.{List, [], ◌∷◌, ◌++◌, map}
use Prim.Native.Nat.{ℕ, ◌+◌, ◌-◌, ◌≤◌}
use native.Mathlib.Omega.{arith}
use lib.Dec.{ltb, eqb}
use lib.IntN.{pos, nat_abs}
use lib.ListN.{length, take, drop, length-append, length-drop, length-map, get_or-eq_default}
use lib.Seq.{length-take-le}
use borrow.Author.Tests.{ltb-true, ltb-false, eqb-true, ne_eqb}
use Rattle.whole.specs.Lists.{first_of, take_out, Every}
use Rattle.whole.proofs.Tests.{by-test}
use Rattle.whole.proofs.Lists.{every-by, every-both, every-at, get_d_map, map-take, map-drop, first_of-length}
use Rattle.whole.proofs.Lists.{first_of-take, first_of-get_d}
use Rattle.whole.proofs.Pieces.{every_append, every_first, every_rest, map-append, first_of-front}
use Rattle.whole.proofs.TakenOut.{every-take_out, take_out-length}
use Rattle.building.specs.Year.{has_heights, face_limit}
use Rattle.rules.specs.declared.Section.TheVariants.{F}
use Rattle.rules.specs.declared.Kind.TheVariants.{Entry}
use Rattle.rules.specs.Sections.{line_fault}
use Rattle.rules.proofs.Line.{in_order}
use Rattle.entry.specs.declared.Face.{Face}
use Rattle.entry.specs.Says.{carried_face, face_of}
use Rattle.entry_written.specs.Fields.{face_fields}
use Rattle.job.specs.declared.Job.{Job}
use Rattle.job.specs.declared.Faces.{Faces}
use Rattle.job.specs.Carried as job
use Rattle.job.specs.Carried.{Carried, carried, no_face, before}
use Rattle.job.specs.InOrder.{Within, FaceInOrder, HeightInOrder, InOrder}
use Rattle.job.specs.Walk.{Accepted, verdict, judged}
use Rattle.job.proofs.InOrder.{face-line, height-line, within-line, in-order-accepted}
use Rattle.job.proofs.Lines.{face-back}
use Rattle.job.proofs.Years.{later-heights}
use Rattle.verdict.specs.Verdict.{Refuses}
use Rattle.edits.specs.Faces.{add, replace, faces_held, behind, holding}
use Rattle.edits.specs.Edits.{Edit, Add, Replace, TakeOut, held_job, new_face, edit_verdict, edit_faces}
use Rattle.edits.specs.Edits.{job_with, edited_job}
use Rattle.edits.proofs.Counts.{held-in-order, few-faces}
use Rattle.edits.proofs.Checks.{add-passed, replace-passed, take-out-passed, there-is, has_room, not-only}

-- ---- a face that fits a job, by all but its own list

module _ (c : Carried) where
  abbrev heights : Bool
  heights = has_heights c.year

  pub record Fits (f : Face) : Type 0 where
    pub face : FaceInOrder c.building f
    pub low : heights ≡ false → f.height ≡ pos 0
    pub tall : heights ≡ true → HeightInOrder c.profile f.height

  pub all_fit : InOrder c → Every Fits c.faces
  all_fit o =
      ⊎_elim
      (λ y. every-both
      (λ f i z. record { face = i; low = λ e. z; tall = λ e. absurd (true≢false (sym e ∙ ap has_heights y.year)) })
      c.faces o.faces y.heights)
      (λ l. every-both
      (λ f i z. record {
        face = i;
        low = λ e. absurd (true≢false (sym (later-heights c.year l.year) ∙ e));
        tall = λ e. z;
      })
      c.faces o.faces l.heights) o.form

  -- with such faces, as many as its year may have, it is in order
  pub fit-in-order : InOrder c → (fs : List Face) → Within 1 (face_limit c.year) (length fs) → Every Fits fs
      → InOrder (job.with_faces fs c)
  fit-in-order o fs n h =
      record {
        building = o.building;
        winds-counted = o.winds-counted;
        winds = o.winds;
        internals-counted = o.internals-counted;
        internals = o.internals;
        faces-counted = n;
        faces = every-by (λ f z. z.face) fs h;
        form = ⊎_elim
            (λ y. inl (record {
              year = y.year;
              profile = y.profile;
              heights = every-by (λ f z. z.low (ap has_heights y.year)) fs h;
            }))
            (λ l. inr (record {
              year = l.year;
              counted = l.counted;
              profile = l.profile;
              rising = l.rising;
              heights = every-by (λ f z. z.tall (later-heights c.year l.year)) fs h;
            })) o.form;
      }

  -- a new face whose line has no fault
  pub new-fits : (f : Face) → line_fault (Entry F) (before c) (face_fields heights f) ≡ 0
      → Fits (carried_face heights f)
  new-fits f z =
      let x = face_fields heights f in
      let b = before c in
      subst Fits (face-back heights f (in_order (Entry F) b x z).formed) (record {
        face = face-line b x z;
        low = λ e. ap (λ h. (face_of h x).height) e;
        tall = λ e. record { range = height-line b x z; within = within-line b e x z };
      })

-- ---- the faces that a record's sheet carries

module _ (j : Job) (o : InOrder (carried j)) where
  abbrev r : Faces
  r = j.faces

  abbrev as_carried : Face → Face
  as_carried = carried_face (has_heights j.year)

  -- each that counts is there: a zeroed one would have no zone
  all_there : r.count ≤ length r.entry
  unfolding carried
  all_there =
      by-test (ltb (length r.entry) r.count)
      (λ t.
      let i = length r.entry in
      let few = ltb-true i r.count t in
      let l = first_of no_face r.count r.entry in
      let all = first_of-length no_face r.count r.entry in
      let none =
      get_d_map as_carried l i no_face no_face (omega (arith, all))
      ∙ ap as_carried (first_of-get_d no_face r.count i r.entry few
      ∙ get_or-eq_default r.entry no_face {n = i} (omega arith)) in
      let face =
      every-at (FaceInOrder j.building) (map as_carried l) no_face i (omega (arith, length-map l as_carried, all))
      o.faces in
      absurd (omega (arith, face.zone.low, ap (λ f. f.zone) none)))
      (λ t. ltb-false (length r.entry) r.count t)

  pub carried-faces : (carried j).faces ≡ map as_carried (faces_held r)
  unfolding carried
  carried-faces = ap (map as_carried) (first_of-take no_face r.count r.entry all_there)

  pub counted : length (faces_held r) ≡ r.count
  counted = length-take-le r.count r.entry all_there

-- a record that holds some faces carries them
pub holding-carried : (j : Job) (fs rest : List Face)
    → carried (job_with (holding fs rest) j) ≡ job.with_faces (map (carried_face (has_heights j.year)) fs) (carried j)
unfolding carried
holding-carried j fs rest =
    ap (λ l. job.with_faces (map (carried_face (has_heights j.year)) l) (carried j)) (first_of-front no_face fs rest)

twice : (h : Bool) (f : Face) → carried_face h (carried_face h f) ≡ carried_face h f
twice true f = refl
twice false f = refl

-- ---- the faces of a sheet, edited

-- as the sheet of that year carries them
abbrev pub edit_carried : Bool → Edit → List Face → List Face
edit_carried h (Add f) fs = add (carried_face h f) fs
edit_carried h (Replace k f) fs = replace (nat_abs k) (carried_face h f) fs
edit_carried h (TakeOut k) fs = take_out (nat_abs k) fs

module _ (j : Job) (o : InOrder (carried j)) where
  abbrev h : Bool
  h = has_heights j.year

  abbrev held : List Face
  held = faces_held j.faces

  abbrev pub after : Edit → Job
  after e = job_with (edit_faces e j) j

  first-carried : (n : ℕ) → map (carried_face h) (take n held) ≡ take n (carried j).faces
  first-carried n = sym (map-take (carried_face h) n held) ∙ ap (take n) (sym (carried-faces j o))

  rest-carried : (n : ℕ) → map (carried_face h) (drop n held) ≡ drop n (carried j).faces
  rest-carried n = map-drop (carried_face h) n held ∙ ap (drop n) (sym (carried-faces j o))

  faces-edited : (e : Edit) → (fs rest : List Face) → edit_faces e j ≡ holding fs rest
      → map (carried_face h) fs ≡ edit_carried h e (carried j).faces
      → carried (after e) ≡ job.with_faces (edit_carried h e (carried j).faces) (carried j)
  faces-edited e fs rest q m =
      ap (λ x. carried (job_with x j)) q ∙ holding-carried j fs rest ∙ ap (λ l. job.with_faces l (carried j)) m

  -- what the sheet carries after an edit
  pub carried-edited : (e : Edit) → carried (after e) ≡ job.with_faces (edit_carried h e (carried j).faces) (carried j)
  unfolding edit_faces
  carried-edited (Add f) =
      let new = carried_face h f in
      faces-edited (Add f) (add new held) (drop 1 (behind j.faces)) refl
      (map-append (carried_face h) held (new ∷ [])
      ∙ ap₂ (λ l g. l ++ (g ∷ [])) (sym (carried-faces j o)) (twice h f))
  carried-edited (Replace k f) =
      let new = carried_face h f in
      let n = nat_abs k in
      faces-edited (Replace k f) (replace n new held) (behind j.faces) refl
      (map-append (carried_face h) (take (n - 1) held) (new ∷ drop n held)
      ∙ (λ i. first-carried (n - 1) i ++ (twice h f i ∷ rest-carried n i)))
  carried-edited (TakeOut k) =
      let n = nat_abs k in
      faces-edited (TakeOut k) (take_out n held) (no_face ∷ behind j.faces) refl
      (map-append (carried_face h) (take (n - 1) held) (drop n held)
      ∙ ap₂ ◌++◌ (first-carried (n - 1)) (rest-carried n))

  -- ---- and it is accepted

  abbrev fs : List Face
  fs = (carried j).faces

  pub many : length fs ≡ j.faces.count
  many = ap length (carried-faces j o) ∙ length-map held (carried_face h) ∙ counted j o

  abbrev Fitting : Face → Type 0
  Fitting = Fits (carried j)

  all : Every Fitting fs
  all = all_fit (carried j) o

  new : (k : ℕ) (f : Face) → (new_face k f j).number ≡ 0 → Fitting (carried_face h f)
  unfolding carried
  new k f z = new-fits (carried j) f z

  pub in-order-edited : (e : Edit) → (edit_verdict e j).number ≡ 0
      → Within 1 (face_limit (carried j).year) (length (edit_carried h e fs)) × Every Fitting (edit_carried h e fs)
  in-order-edited (Add f) z =
      let p = add-passed j f z in
      let room = has_room j p.second in
      let n = length-append fs (carried_face h f ∷ []) in (
        record { low = omega (arith, n); high = omega (arith, n, many) },
        every_append Fitting fs (carried_face h f ∷ []) all (new (j.faces.count + 1) f p.third, tt),
      )
  in-order-edited (Replace k f) z =
      let p = replace-passed j k f z in
      let there = there-is j k p.second in
      let few = few-faces j o in
      let n = nat_abs k in
      let first = length-take-le (n - 1) fs (omega (arith, many, there.to)) in
      let rest = length-drop n fs in
      let both = length-append (take (n - 1) fs) (carried_face h f ∷ drop n fs) in (
        record {
          low = omega (arith, both);
          high = omega (arith, first, rest, both, many, there.from, there.to, few.1);
        },
        every_append Fitting (take (n - 1) fs) (carried_face h f ∷ drop n fs) (every_first Fitting (n - 1) fs all)
            (new n f p.third, every_rest Fitting n fs all),
      )
  in-order-edited (TakeOut k) z =
      let p = take-out-passed j k z in
      let there = there-is j k p.second in
      let more = not-only j p.third in
      let few = few-faces j o in
      let n = nat_abs k in
      let left = take_out-length n fs (omega (arith, there.from)) (omega (arith, many, there.to)) in (
        record { low = omega (arith, left, many); high = omega (arith, left, many, few.1) },
        every-take_out Fitting n fs all,
      )

  pub edited-accepted : (e : Edit) → (edit_verdict e j).number ≡ 0 → judged (after e) ≡ Accepted (carried (after e))
  unfolding judged
  edited-accepted e z =
      let d = in-order-edited e z in
      let i = fit-in-order (carried j) o (edit_carried h e fs) d.0 d.1 in
      in-order-accepted (carried (after e)) (subst InOrder (sym (carried-edited e)) i)

-- ---- whatever the edit, refused or not

pub edited-stays : (e : Edit) (j : Job) (c : Carried) → judged j ≡ Accepted c
    → (d : Carried) × (judged (edited_job e j).job ≡ Accepted d)
unfolding edited_job
edited-stays e j c a =
    by-test (eqb (edit_verdict e j).number 0)
    (λ t.
    let o = held-in-order j (held_job j) refl (ap (λ x. (verdict x).number) a) in
    let z = eqb-true (edit_verdict e j).number 0 t in
    (carried (after j o e), rw t (edited-accepted j o e z)))
    (λ t. (c, rw t a))

pub refused-stays : (e : Edit) (j : Job) → Refuses (edited_job e j).verdict → (edited_job e j).job ≡ j
unfolding edited_job
refused-stays e j h = rw (ne_eqb (edit_verdict e j).number 0 h)
