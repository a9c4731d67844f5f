use Rattle.std.proofs.Common.{◌∙◌, Some, None, ap, sym}
use Rattle.std.specs.Option.{option_copied}
use Rattle.stream_out.proofs.Named.{named}
use Rattle.stream_out.proofs.names.Names.name.Goals as goal

pub returns-in_ok-name-in-Some : goal.returns-in_ok-name-in-Some
returns-in_ok-name-in-Some c = λ before stand.
    c.in_ok-name-in-Some.ensures
    ∙ named before c.args.self.now c.args.table.raw (Some c.in-Some.created.now) stand (ap option_copied (sym c.in-Some.is) ∙ c.get.ensures.value)

pub returns-in-None : goal.returns-in-None
returns-in-None c = λ before stand.
    c.new.ensures ∙ named before c.args.self.now c.args.table.raw None stand (ap option_copied (sym c.in-None.is) ∙ c.get.ensures.value)
