-- The walk over the slot's document begins with its comments, and where nothing is left the paper holds its layout.
use Rattle.std.proofs.Common.{◌<◌, false, List, [], length, refl, sym, subst}
use Rattle.std.specs.List.{AllByRecursion}
use Rattle.rf_base_file.specs.FileDocument.{style_doc}
use Rattle.rf_style.specs.StyleOf.{seen}
use Rattle.rf_tree.specs.Slots.{NodesStand, kept_slot}
use Rattle.rf_tree.specs.declared.nodes.At.{At}
use Rattle.rf_walk.proofs.Ends.{root_ends, laid_out, too_long}
use Rattle.rf_ways.specs.declared.places.Place.{Place}
use Rattle.rf_ways.proofs.Below.{slot_below}
use Rattle.rf_rows.specs.declared.laying.Spot.{Spot}
use Rattle.rf_rows.proofs.Frames.{same}
use Rattle.rf_slot_rows.proofs.LeadLines.{slot_begins}
use Rattle.rf_slot_rows.proofs.leads.lay_leads.Goals as goal

pub lay_nodes-requires-clause-next : goal.lay_nodes-requires-clause-next
lay_nodes-requires-clause-next g c =
    let top = c.requires.top in
    let paper = c.args.paper.now in
    let spot : Spot = record { flat = false; indentation = c.column.result } in
    let given = c.requires.picked top.0 top.1 top.2 top.3 top.4 in (
      top.0,
      top.1,
      top.2.leads,
      top.3,
      subst (λ (ats : List At). NodesStand top.0 c.args.tree.now.nodes ats top.2.leads) (sym c.deref.ensures.value) top.4.leads,
      (paper, [], (root_ends (style_doc (seen c.args.style.now) top.0 top.2) [] given).0, slot_begins g.P.Paper.holds paper (seen c.args.style.now) top.0 c.args.tree.now c.args.slot.now top.2 spot c.top_place.ensures c.requires.leads top.4 c.column.ensures refl c.requires.blank given),
    )

pub lay_nodes-requires-clause-below : goal.lay_nodes-requires-clause-below
lay_nodes-requires-clause-below g c =
    let nodes = c.args.tree.now.nodes in
    subst (λ (p : Place). AllByRecursion (λ at. at.0 < p.before) c.deref.result.now) (sym c.top_place.ensures)
    (subst (λ (ats : List At). AllByRecursion (λ at. at.0 < length nodes) ats) (sym c.deref.ensures.value)
    (slot_below (length nodes) (kept_slot c.args.slot.now) c.requires.top.5).leads)

pub returns-clause-laid : goal.returns-clause-laid
returns-clause-laid g c is ts trees s holds stands =
    let paper = c.args.paper.now in
    let d = style_doc (seen c.args.style.now) ts s in
    let spot : Spot = record { flat = false; indentation = c.column.result } in
    let given = c.requires.picked ts trees s holds stands in
    let all = root_ends d [] given in
    let leads = subst (λ (ats : List At). NodesStand ts c.args.tree.now.nodes ats s.leads) (sym c.deref.ensures.value) stands.leads in
    laid_out (g.P.Paper.holds paper c.lay_nodes.new.paper) same d [] [] [] all.0 given (g.met.P.Paper.within paper c.lay_nodes.new.paper) refl
    (c.lay_nodes.ensures.laid is ts trees s.leads holds leads paper [] all.0
    (slot_begins g.P.Paper.holds paper (seen c.args.style.now) ts c.args.tree.now c.args.slot.now s spot c.top_place.ensures c.requires.leads stands c.column.ensures refl c.requires.blank given))
    all.1

pub returns-clause-too_long : goal.returns-clause-too_long
returns-clause-too_long g c long ts trees s holds stands =
    let paper = c.args.paper.now in
    let d = style_doc (seen c.args.style.now) ts s in
    let spot : Spot = record { flat = false; indentation = c.column.result } in
    let given = c.requires.picked ts trees s holds stands in
    let all = root_ends d [] given in
    let leads = subst (λ (ats : List At). NodesStand ts c.args.tree.now.nodes ats s.leads) (sym c.deref.ensures.value) stands.leads in
    too_long d [] all.0 given all.1
    (c.lay_nodes.ensures.too_long long ts trees s.leads holds leads paper [] all.0
    (slot_begins g.P.Paper.holds paper (seen c.args.style.now) ts c.args.tree.now c.args.slot.now s spot c.top_place.ensures c.requires.leads stands c.column.ensures refl c.requires.blank given))
