-- `put_whole` meets its contract: what is copied stands between what was before and after it.
use mathlib.Core.Path.{refl, sym, ◌∙◌}
use native.Mathlib.Omega.{arith}
use mathlib.Core.List.{append_assoc}
use lib.ListN.{length, take}
use lib.Seq.{sets-eq}
use Rattle.std.proofs.lemmas.List.Edits.{paste_all}
use Rattle.std.proofs.lemmas.Slice.{put_mid-paste}
use Rattle.page.proofs.put_whole.Goals as goal

pub returns : goal.returns
returns c =
    let a = c.args in
    let s = a.s.now in
    record {
      end = omega (arith, c.requires);
      bytes =
          put_mid-paste a.at _ a.buf.now _ s (length s) c.copy_from_slice.ensures.after (omega arith) refl
          ∙ paste_all a.buf.now a.at s (length s) refl
          ∙ sym (sets-eq s a.buf.now a.at c.requires ∙ append_assoc (take a.at a.buf.now) s _);
    }
