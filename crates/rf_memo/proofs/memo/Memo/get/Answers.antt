-- What the fields hold.
use Rattle.std.specs.Option.{option_copied}
use Rattle.rf_memo.proofs.Pages.{seen_found}
use Rattle.rf_memo.proofs.memo.Memo.get.Goals as goal

pub returns : goal.returns
returns g c =
    seen_found c.self.inside.places.items c.as_slice.result.now c.self.inside.pages.items c.as_slice-2.result.now c.args.self.now c.args.node c.args.col c.args.indent (option_copied c.look_up.result)
    c.as_slice.ensures.value c.as_slice-2.ensures.value c.self.view_is c.look_up.ensures
