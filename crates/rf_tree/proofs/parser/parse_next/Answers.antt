-- What the parser has behind the items that it took is what comes next, wherever the tree's trees stand.
use Rattle.std.proofs.Common.{ℕ, ◌≡◌, ◌⊎◌, ◌<◌, ◌≤◌, ◌+◌, inl, inr, List, length, sym, ap, ◌∙◌, subst}
use Rattle.std.specs.Global.{Vec}
use Rattle.std.specs.Str.{chars}
use Rattle.std.proofs.lemmas.List.{length-map}
use Rattle.std.proofs.lemmas.Result.{err_from_is_err_and}
use Rattle.rf_base_grammar.specs.Token.{item_of}
use Rattle.rf_base_grammar.specs.declared.items.Item.{Item}
use Rattle.rf_tree.specs.Next.{IsAtBehind}
use Rattle.rf_tree.proofs.Places.{has_next}
use Rattle.rf_tree.proofs.SlotEnds.{slots_end}
use Rattle.rf_tree.proofs.parser.parse_next.Goals as goal

pub returns-in_err-next-clause-refused : goal.returns-in_err-next-clause-refused
returns-in_err-next-clause-refused c =
    let p = err_from_is_err_and c.from_residual.result c.from_residual.ensures.1 in
    let same = c.as_slice.ensures.value ∙ ap (λ (v : Vec Item). v.items) c.put_trees-room.ensures.kept.1 in
    rw (p.1, p.2)
    (λ ts done of is place.
    c.in_err-next.ensures.refused (chars c.args.tree.now.src.now) ts done of (same ∙ is)
    (c.before_trees-parser.ensures ts done c.args.from place))

pub returns-in_err-trees-clause-refused : goal.returns-in_err-trees-clause-refused
returns-in_err-trees-clause-refused c =
    let p = err_from_is_err_and c.from_residual-in_err-trees.result c.from_residual-in_err-trees.ensures.1 in
    let same = c.as_slice.ensures.value ∙ ap (λ (v : Vec Item). v.items) c.put_trees-room.ensures.kept.1 in
    rw (p.1, p.2)
    (λ ts done of is place.
    let at = c.in_ok-next.ensures.read (chars c.args.tree.now.src.now) ts done of (same ∙ is)
    (c.before_trees-parser.ensures ts done c.args.from place) in
    elim c.in_ok-next.ensures.enough [
      | inl end ↦
          c.in_err-trees.ensures.refused ts done
          (subst (λ (n : ℕ). IsAtBehind ts done n c.read.new.self)
          (end ∙ ap (λ (all : List Item). length all) (same ∙ is) ∙ length-map ts item_of) at)
      | inr stop ↦ absurd (c.in_err-trees.ensures.open stop.2.2.none)
    ])

pub returns-clause-enough : goal.returns-clause-enough
returns-clause-enough c =
    let next : ℕ = c.in_ok-next.next in
    subst (λ (all : List Item). (next ≡ length all) ⊎ ((next < length all) × (c.args.from + c.args.least ≤ next)))
    (c.as_slice.ensures.value ∙ ap (λ (v : Vec Item). v.items) (sym c.put_trees.ensures.kept.1))
    (elim c.in_ok-next.ensures.enough [ inl end ↦ inl end | inr stop ↦ inr (stop.0, stop.1) ])

pub returns-clause-trees : goal.returns-clause-trees
returns-clause-trees c =
    λ ts done of is place.
    let items = c.as_slice.ensures.value ∙ ap (λ (v : Vec Item). v.items) c.put_trees-room.ensures.kept.1 ∙ is in
    let at = c.in_ok-next.ensures.read (chars c.args.tree.now.src.now) ts done of items
    (c.before_trees-parser.ensures ts done c.args.from place) in
    let whole = c.in_ok-trees.ensures.whole in
    let has = has_next ts done c.in_ok-next.next c.read.new.self whole.0 at in
    rw (c.put_trees.ensures.put.0, c.put_trees.ensures.put.1) (record {
      part = has.part;
      place = has.place;
      stand_for = rw (whole.1, whole.2) has.stand_for;
      sound = rw whole.1 has.sound;
      ends = elim c.in_ok-next.ensures.enough [
        | inl end ↦ inl (end ∙ ap (λ (all : List Item). length all) items ∙ length-map ts item_of)
        | inr stop ↦
            inr (slots_end ts done has.part c.read.new.self.nodes c.read.new.self.here.nodes.items
            c.as_slice.result.now c.in_ok-next.next stop.2.0 items stop.2.1 stop.2.2.next_is has.place has.stand_for
            stop.2.2.last)
      ];
    })
