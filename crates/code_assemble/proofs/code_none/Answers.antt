use Rattle.code_assemble.proofs.WrittenLaws.{fits_answer, fits_slice, short_answer, short_slice, ends_over}
use native.Mathlib.Omega.{arith}
use mathlib.Core.Path.{refl, ◌∙◌}
use Rattle.code_flat.specs.Code.{ends}
use Rattle.code_assemble.proofs.code_none.Goals as goal

pub returns-then-code-lt-END_WORDS : goal.returns-then-code-lt-END_WORDS
returns-then-code-lt-END_WORDS c = let a = c.args in record { value = short_answer ends 8 a.code.now refl c.if-code-lt-END_WORDS.true; code_after = short_slice ends 8 a.code.now refl c.if-code-lt-END_WORDS.true }

pub returns : goal.returns
returns c = let a = c.args in let h = c.if-code-lt-END_WORDS.false in record { value = fits_answer ends 8 a.code.now refl (omega (arith, h)); code_after = ends_over a.code.now _ (omega (arith, h)) c.put_ends.ensures ∙ fits_slice ends 8 a.code.now refl (omega (arith, h)) }
