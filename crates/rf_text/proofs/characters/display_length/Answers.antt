-- Character by character; a text has at most two columns a character, and no more characters than bytes.
use Rattle.std.proofs.Common.{◌≡◌, ℕ, ◌+◌, ◌≤◌, ◌<◌, List, length, get_or, drop, sym, ap, ◌∙◌, subst, arith}
use Rattle.std.proofs.lemmas.Iterator.{YieldsList-from_chars}
use Rattle.std.proofs.lemmas.List.{at_drop_more, at_drop_all, length_push}
use Rattle.std.proofs.lemmas.Iterator.Consumers.{YieldsList-turn, YieldsList-end}
use Rattle.std.proofs.lemmas.Str.{encodes-chars, length-le-encodes}
use Rattle.std.specs.Str.{chars, IsUtf8}
use Rattle.rf_base_style.specs.Columns.{display_width, display_length}
use Rattle.rf_base_style.proofs.Lengths.{display_length-bound}
use Rattle.rf_text.proofs.characters.display_length.Goals as goal

-- the columns from a place on are those of the character there and those behind it
from_place : (cs : List ℕ) (n c : ℕ) → (n < length cs) × (c ≡ get_or cs n c) → display_length (drop n cs) ≡ display_width c + display_length (drop (n + 1) cs)
unfolding display_length
from_place cs n c h = at_drop_more display_length cs n c h.0 ∙ ap (λ x. display_width x + display_length (drop (n + 1) cs)) (sym h.1)

-- nothing takes up no column
at_end : (cs : List ℕ) (n : ℕ) → length cs ≤ n → display_length (drop n cs) ≡ 0
unfolding display_length
at_end cs n over = at_drop_all display_length cs n over

-- a text has no more characters than bytes
few_characters : (bs : List ℕ) → IsUtf8 bs → length (chars bs) ≤ length bs
few_characters bs u = subst (λ t. length (chars bs) ≤ length t) (encodes-chars bs u) (length-le-encodes (chars bs))

pub overflow_add-total : goal.overflow_add-total
overflow_add-total c =
    let t = YieldsList-turn (YieldsList-from_chars c.args.s.now c.utf8.s cc) c.loop-c.yielded _ c.loop-c.yielded_by _ _ c.in-Some.c c.in-Some.is c.next.ensures.steps in
    let e = from_place _ _ _ t in
    let few : length (chars c.args.s.now) ≤ length c.args.s.now = few_characters _ c.utf8.s in
    omega (arith, display_length-bound (chars c.args.s.now), few)

pub loop-c-preserved : goal.loop-c-preserved
loop-c-preserved c =
    let t = YieldsList-turn (YieldsList-from_chars c.args.s.now c.utf8.s cc) c.loop-c.yielded _ c.loop-c.yielded_by _ _ c.in-Some.c c.in-Some.is c.next.ensures.steps in
    let e = from_place _ _ _ t in
    rw length_push (omega arith)

pub returns : goal.returns
returns c =
    let t = YieldsList-end (YieldsList-from_chars c.args.s.now c.utf8.s cc) c.loop-c.yielded _ c.loop-c.yielded_by _ _ c.in-None.is c.next.ensures.steps in
    omega (arith, at_end (chars c.args.s.now) (length c.loop-c.yielded) (omega (arith, t.1)))
