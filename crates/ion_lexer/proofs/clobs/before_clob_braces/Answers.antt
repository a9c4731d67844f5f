use Rattle.std.proofs.Common.{◌≡◌, ◌-◌, length, take, drop, length-drop, ap, refl, sym, ◌∙◌, arith}
use Rattle.ion_model.specs.Lobs.{clob_hides}
use Rattle.ion_lexer.proofs.Braces.{byte_passed, to_end}
use Rattle.ion_lexer.proofs.clobs.before_clob_braces.Goals as goal

pub loop-at-preserved : goal.loop-at-preserved
loop-at-preserved c =
    let bytes = c.args.bytes.now in
    let at = c.loop-at.at in
    let len : length (take (length bytes - at) (drop at bytes)) ≡ length bytes - at = ap length (to_end at bytes) ∙ length-drop at bytes in
    record {
      within = omega (arith, len, c.in_ok-at.ensures.within);
      same =
          byte_passed clob_hides bytes _ at c.in_ok-at.field-0 _ _ c.loop-at-test.true (to_end at bytes) (sym c.closes.ensures.value ∙ c.if-closes.false) (sym c.in_ok-at.ensures.value) refl c.loop-at.invariant.same;
    }
