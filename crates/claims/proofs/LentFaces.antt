-- The contract of `column::faces::gather`, which is lent a list of records, read by hand: `asks` and `says` hold it
-- against the source.
use mathlib.Core.Path.{◌≡◌, refl}
use seplogic.Ra.Ura.{Ura}
use base.Logic.{SProp, emp}
use prog.Memory.{Memory}
use prog.Routine.{Routine}
use types.Logic.{Logic}
use contract.Monad.{Fun, fact}
use contract.Lifetimes.{Lfts}
use denote.Triple.Entry.{Args, Res}
use denote.Triple.Clauses.{AtExit}
use Rattle.column.specs.Listed.{listed}
use Rattle.column.specs.contracts.faces.gather as source

abbrev pub L : Type 0
L = Lfts (source.ended).signature.lifetimes

abbrev pub Asked : (κ : L) → Args (source.ended).signature κ → Type 0
Asked κ a = Unit

abbrev pub Post : (κ : L) → Args (source.ended).signature κ → Res (source.ended).signature κ → AtExit source.ended κ
    → Type 0
Post κ a r s = r ≡ listed a.0.now

module _ {M : Type 1} {𝓤 : Ura M} (𝓛 : Logic 𝓤) (mem : Memory → SProp 𝓤) (run : Routine → Fun 𝓤) (κ : L)
    (a : Args (source.ended).signature κ) where
  asks : (source.clauses 𝓛 mem run κ a).requires tt ≡ emp 𝓤
  asks = refl

  says : (r : Res (source.ended).signature κ) (s : AtExit source.ended κ)
      → (source.clauses 𝓛 mem run κ a).ensures tt r s ≡ fact 𝓤 (Post κ a r s)
  says r s = refl
