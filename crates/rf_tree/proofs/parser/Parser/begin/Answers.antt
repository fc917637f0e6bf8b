-- A new level, on which nothing stands.
use Rattle.std.proofs.Common.{List, ◌++◌, ◌∷◌, [], refl, ap, ◌∙◌, arith}
use Rattle.std.specs.Global.{Vec}
use Rattle.rf_tree.specs.declared.nodes.At.{At}
use Rattle.rf_tree.specs.declared.levels.Level.{Level}
use Rattle.rf_tree.specs.declared.parser.Begun.{Begun}
use Rattle.rf_tree.proofs.parser.Parser.begin.Goals as goal

pub returns-clause-goes_on : goal.returns-clause-goes_on
returns-clause-goes_on c =
    let same = c.room-nodes.ensures.same in
    let before : Level = record { nodes = c.replace.result; dots = c.replace-2.result } in
    let last : Begun = record { opened = c.args.what; before = before; item = c.args.number; start = c.args.start } in
    record {
      room = omega (arith, c.len.ensures, c.args.self.now.begun.ok.0);
      nodes = same.nodes;
      here = ap (λ (nodes : Vec At). nodes.items) c.replace.ensures.after ∙ c.room-nodes.ensures.none;
      dots = c.replace-2.ensures.after;
      begun = (
        last,
        c.in_ok-push.ensures.items ∙ ap (λ (xs : List Begun). xs ++ last ∷ []) same.begun,
        rw (c.replace.ensures.value, c.replace-2.ensures.value) same.here,
        refl,
        refl,
        refl,
      );
    }
