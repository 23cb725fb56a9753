-- `text::words::put_word` meets its contract: each byte is pasted behind those before it. Assumes nothing.
use mathlib.Core.Path.{◌≡◌, refl, ◌∙◌}
use native.Mathlib.Numerals.{add-one}
use native.Mathlib.Omega.{arith}
use lib.ListN.{length, length-set}
use lib.Seq.{paste-suc, take-length}
use Rattle.text.specs.Putting.{written}
use Rattle.text.proofs.words.put_word.Goals as goal

pub loop-byte-preserved : goal.loop-byte-preserved
loop-byte-preserved c =
    let a = c.args in (
      simp length-set c.loop-byte.invariant.0,
      rw (c.loop-byte.invariant.1, add-one) (paste-suc a.out.now a.at a.word.now c.loop-byte.byte 0 (omega arith) (omega arith)),
    )

pub returns : goal.returns
unfolding written
returns c =
    let all : c.loop-byte.byte ≡ length c.args.word.now = omega arith in
    record { end = refl; bytes = c.loop-byte.invariant.1 ∙ rw (all, take-length) refl }
