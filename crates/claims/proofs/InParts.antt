-- A file in parts: calls of `aral_rose_take` one after the other, each by whatever its contract allows, come to what
-- the definition says of the parts.
use mathlib.Core.Path.{◌≡◌, refl, sym, ap, ◌∙◌}
use mathlib.Core.List.{List, [], ◌∷◌}
use Prim.Native.Nat.{ℕ}
use Rattle.rose.specs.declared.Rose.{Rose}
use Rattle.rose.specs.Taken.{part_taken}
use Rattle.rose.proofs.Taken.{parts_taken}
use Rattle.claims.specs.Contract.{Call}
use Rattle.claims.proofs.Contracts as of

-- one part: from the rose handed in to the one that is answered
abbrev pub TakesPart : Rose → List ℕ → Rose → Type 0
TakesPart r p u =
    Call of.aral-rose-take.Post {X = Rose × List ℕ} (λ κ a. (a.0, a.1.0.now)) (λ κ q. q) (r, p) u

-- "The file arrives from the logger in parts"
pub data Takes : Rose → List (List ℕ) → Rose → Type 0 where
  none : {r : Rose} → Takes r [] r
  part : {r u v : Rose} {p : List ℕ} {ps : List (List ℕ)} → TakesPart r p u → Takes u ps v → Takes r (p ∷ ps) v

part-is : (r u : Rose) (p : List ℕ) → TakesPart r p u → u ≡ part_taken r p
part-is r u p (κ, a, q, s, post, given, back) =
    sym back ∙ post ∙ ap (λ (x : Rose × List ℕ). part_taken x.0 x.1) given

pub parts_are : (r v : Rose) (ps : List (List ℕ)) → Takes r ps v → v ≡ parts_taken r ps
unfolding parts_taken
parts_are r v [] none = refl
parts_are r v (p ∷ ps) (part {u = u} h t) =
    parts_are u v ps t ∙ ap (λ (x : Rose). parts_taken x ps) (part-is r u p h)
