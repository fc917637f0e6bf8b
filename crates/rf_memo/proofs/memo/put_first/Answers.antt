-- The new page is the node's.
use Rattle.std.proofs.Common.{◌≡◌, ◌+◌, length, refl, arith}
use Rattle.rf_memo.proofs.Pages.{first_owned, first_puts}
use Rattle.rf_memo.proofs.memo.put_first.Goals as goal

pub returns-in-Ok-clause-owned : goal.returns-in-Ok-clause-owned
returns-in-Ok-clause-owned g c =
    let place : c.len.result ≡ length c.args.pages.now.items + 1 = omega (arith, c.len.ensures, c.in-Ok.ensures.len) in
    first_owned c.args.places.now.items _ c.args.pages.now.items c.push.new.self.items c.args.node c.len.result c.one-page.result refl place c.in-Ok.ensures.items c.requires.node c.requires.owned

pub returns-in-Ok-clause-put : goal.returns-in-Ok-clause-put
returns-in-Ok-clause-put g c =
    let place : c.len.result ≡ length c.args.pages.now.items + 1 = omega (arith, c.len.ensures, c.in-Ok.ensures.len) in
    first_puts c.args.places.now.items _ c.args.pages.now.items c.push.new.self.items c.args.node c.len.result c.args.col c.args.indent c.one-page.result c.args.value
    refl place c.in-Ok.ensures.items c.one-page.ensures c.requires.node c.requires.none c.requires.owned
