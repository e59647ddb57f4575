-- What is read before a section judges its count and its entries as b does. Only the contract of a private function
-- cites it.
use Rattle.std.specs.Prelude.{◌≡◌, List, pos, neg_ℤ}
use Rattle.field.specs.declared.Field.{Field}
use Rattle.rules.specs.declared.Before.{Before}
use Rattle.rules.specs.declared.Section.{Section}
use Rattle.rules.specs.declared.Section.TheVariants.{«V», B, W, I, P, F}
use Rattle.rules.specs.declared.Kind.{Kind}
use Rattle.rules.specs.declared.Kind.TheVariants.{Count, Entry}
use Rattle.rules.specs.Sections.{line_fault}
use Rattle.job.specs.Carried.{Carried, highest_of, before}

abbrev pub Alike : Kind → Before → Carried → Type 0
Alike k b c = (x : List Field) → line_fault k (before c) x ≡ line_fault k b x

-- steps are judged by those before them
abbrev pub EntriesAs : Section → Before → Carried → Type 0
EntriesAs «V» b c = Alike (Entry «V») b c
EntriesAs B b c = Alike (Entry B) b c
EntriesAs W b c = Alike (Entry W) b c
EntriesAs I b c = Alike (Entry I) b c
EntriesAs P b c = highest_of c.profile ≡ neg_ℤ (pos 1)
EntriesAs F b c = Alike (Entry F) b c

pub record JudgesAs (s : Section) (b : Before) (c : Carried) : Type 0 where
  pub count : Alike (Count s) b c
  pub entries : EntriesAs s b c
