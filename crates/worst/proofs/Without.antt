-- Cases without one of their winds: a worst case of another wind is still the worst.
use mathlib.Core.Path.{◌≡◌, refl, sym, ap, ◌∙◌}
use mathlib.Core.Bool.{Bool, true, false, cond}
use mathlib.Core.List.{List, ◌∷◌, ◌++◌, map, Memᴰ}
use lib.IntN.{ℤ}
use Rattle.worst.specs.declared.Side.{Side}
use Rattle.worst.specs.Best.{short, Best, none, at, better, best}
use Rattle.worst.specs.Cases.{Loads, Case, choices, total, worst}
use Rattle.worst.specs.Quick.{over, tagged}
use Rattle.worst.proofs.Sides.{long_trans}
use Rattle.worst.proofs.Better.{over-append, over-map, over-same, over-same-in, tagged-over}
use Rattle.worst.proofs.Quick.{worst-cells}

-- ---- what is not the best can be left out from among others

module _ {A : Type 0} (s : Side) {v : ℤ} {t : A} where
  better-without : (a m b : Best A) → better s a (better s m b) ≡ at v t → (m ≡ at v t → ⊥) → better s a b ≡ at v t
  unfolding better
  better-without a none b e n = e
  better-without none (at u x) none e n = absurd (n e)
  better-without none (at u x) (at y c) e n = go (short s u y) e
    where
      go : (p : Bool) → cond p (at y c) (at u x) ≡ at v t → at y c ≡ at v t
      go true h = h
      go false h = absurd (n h)
  better-without (at w z) (at u x) none e n = go (short s w u) e
    where
      go : (p : Bool) → cond p (at u x) (at w z) ≡ at v t → at w z ≡ at v t
      go true h = absurd (n h)
      go false h = h
  better-without (at w z) (at u x) (at y c) e n = go (short s u y) refl (short s w u) refl e
    where
      go : (p : Bool) → short s u y ≡ p → (q : Bool) → short s w u ≡ q
          → better s (at w z) (cond (short s u y) (at y c) (at u x)) ≡ at v t
          → cond (short s w y) (at y c) (at w z) ≡ at v t
      go true d q f h = rw d at h
      go false d true f h = absurd (n (simp (d, f) at h))
      go false d false f h = simp (long_trans s w u y f d) (simp (d, f) at h)

-- ---- cases in general

-- a case under another name of its wind
abbrev pub renamed : {W W' I A : Type 0} → (W → W') → Case W I A → Case W' I A
renamed number c = record { wind = number c.wind; internal = c.internal; chosen = c.chosen }

-- l' is l without its wind k, with another name for each other wind
pub record Without {W W' I F A : Type 0} (l : Loads W I F A) (l' : Loads W' I F A) (number : W → W') (k : W)
    : Type 0 where
  pub before : List W
  pub after : List W
  pub winds : l.winds ≡ before ++ (k ∷ after)
  pub others : l'.winds ≡ map number (before ++ after)
  pub internals : l'.internals ≡ l.internals
  pub faces : l'.faces ≡ l.faces
  pub alternatives : (w : W) → Memᴰ w (before ++ after) → l'.alternatives (number w) ≡ l.alternatives w
  pub force : (w : W) → Memᴰ w (before ++ after) → l'.force (number w) ≡ l.force w

-- the best case of a wind: by its alternatives and forces, under its name
abbrev wind_best : {W I F A : Type 0} → Side → List I → List F → (F → List A) → (I → F → A → ℤ) → W → Best (Case W I A)
wind_best s is fs alternatives force w =
    over s
    (λ i.
    tagged (λ ks. record { wind = w; internal = i; chosen = ks })
    (best s (total (force i) fs) (choices alternatives fs))) is

tagged-twice : {A B C : Type 0} (g : B → C) (h : A → B) (b : Best A) → tagged g (tagged h b) ≡ tagged (λ x. g (h x)) b
unfolding tagged
tagged-twice g h none = refl
tagged-twice g h (at x a) = refl

module _ {W I F A : Type 0} (s : Side) (is : List I) (fs : List F) (alternatives : F → List A)
    (force : I → F → A → ℤ) (w : W) where
  wind-renamed : {W' : Type 0} (number : W → W')
      → tagged (renamed number) (wind_best s is fs alternatives force w)
      ≡ wind_best s is fs alternatives force (number w)
  wind-renamed number =
      tagged-over s (renamed number) _ is
      ∙ over-same s _ _
      (λ i.
      tagged-twice (renamed number) (λ ks. record { wind = w; internal = i; chosen = ks })
      (best s (total (force i) fs) (choices alternatives fs)))
      is

  -- it has that wind
  wind-named : {v : ℤ} {c : Case W I A} → wind_best s is fs alternatives force w ≡ at v c → c.wind ≡ w
  unfolding tagged
  wind-named {v} {c} e =
      let same : at v (renamed (λ x. w) c) ≡ at v c =
      sym (ap (tagged (renamed (λ x. w))) e) ∙ wind-renamed (λ x. w) ∙ e in
      let case : renamed (λ x. w) c ≡ c = cc in
      sym (ap (λ (d : Case W I A). d.wind) case)

-- a worst case of another wind is still the worst
module _ {W W' I F A : Type 0} (s : Side) {l : Loads W I F A} {l' : Loads W' I F A} {number : W → W'} {k : W}
    (o : Without l l' number k) {v : ℤ} {c : Case W I A} (e : worst s l ≡ at v c) (n : c.wind ≡ k → ⊥) where
  abbrev under : W → Best (Case W I A)
  under w = wind_best s l.internals l.faces (l.alternatives w) (l.force w) w

  abbrev under' : W' → Best (Case W' I A)
  under' w = wind_best s l'.internals l'.faces (l'.alternatives w) (l'.force w) w

  abbrev rest : List W
  rest = o.before ++ o.after

  rest-worst : over s under rest ≡ at v c
  unfolding over
  rest-worst =
      let all : better s (over s under o.before) (better s (under k) (over s under o.after)) ≡ at v c =
      sym (over-append s under o.before (k ∷ o.after))
      ∙ ap (over s under) (sym o.winds)
      ∙ sym (worst-cells l s)
      ∙ e in
      over-append s under o.before o.after
      ∙ better-without s (over s under o.before) (under k) (over s under o.after) all
      (λ m. n (wind-named s l.internals l.faces (l.alternatives k) (l.force k) k m))

  pub dropped-worst : worst s l' ≡ at v (renamed number c)
  unfolding tagged
  dropped-worst =
      worst-cells l' s
      ∙ ap (over s under') o.others
      ∙ over-map s under' number rest
      ∙ over-same-in s (λ w. under' (number w)) (λ w. tagged (renamed number) (under w)) rest
      (λ w m.
      (λ j. wind_best s (o.internals j) (o.faces j) (o.alternatives w m j) (o.force w m j) (number w))
      ∙ sym (wind-renamed s l.internals l.faces (l.alternatives w) (l.force w) w number))
      ∙ sym (tagged-over s (renamed number) under rest)
      ∙ ap (tagged (renamed number)) rest-worst
