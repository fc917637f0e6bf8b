-- Slots that begin with comments, as they are written where all is flat: each gap behind a comment is a space there.
use Rattle.std.proofs.Common.{◌≡◌, ℕ, zero, suc, Bool, true, false, Option, None, Some, List, [], ◌∷◌, ◌++◌, drop, refl, sym, ◌∙◌, ap, subst, inl, inr}
use Rattle.std.specs.Option.{option_map}
use Rattle.rf_base_document.specs.Document.{Doc, Align}
use Rattle.rf_base_document.specs.Sequence.{seq}
use Rattle.rf_base_cut.specs.DocumentLines.{IsFlattenable}
use Rattle.rf_base_grammar.specs.Token.{Token}
use Rattle.rf_base_style.specs.Table.{StyleView}
use Rattle.rf_base_tree.specs.declared.separators.Want.{Want}
use Rattle.rf_base_tree.specs.declared.separators.Want.TheVariants as want
use Rattle.rf_base_tree.specs.Trees.{Tree}
use Rattle.rf_base_tree.specs.Slots.{Entry, Slot}
use Rattle.rf_base_tree.specs.Cut.{slot}
use Rattle.rf_base_file.specs.declared.shapes.Role.{Role}
use Rattle.rf_base_file.specs.declared.shapes.Role.TheVariants.{Free}
use Rattle.rf_base_file.specs.Rows.{Part, part, gap_docs, Step, step, steps_docs, steps_last, row_docs, steps_wanting, whats, perhaps_step, lead_steps, datum_steps, slot_steps, aligned_behind, slot_doc, part_of, slot_part}
use Rattle.rf_base_file.specs.Ways.{entry_in, role_behind}
use Rattle.rf_base_file.specs.FileDocument.{entry_piece}
use Rattle.rf_base_lines.specs.Spelled.{spelled_line, spelled_all}
use Rattle.rf_base_lines.specs.Flattenable.{EachIsFlattenable}
use Rattle.rf_base_lines.specs.Lists.{MayBreak, EachMayBreak, SomeBreaks}
use Rattle.rf_base_lines.proofs.FlatRows.{row_flat, gap_open}
use Rattle.rf_base_lines.proofs.SpelledRows.{all_append, steps_append, gap_soft}
use Rattle.rf_base_lines.proofs.SpelledSteps.{row_same, comments_break}
use Rattle.rf_tree.specs.Nodes.{UnfoldsTo}
use Rattle.rf_tree.specs.Slots.{NodeSlot, NodesStand, NodeStands, NodeSlotStands}
use Rattle.rf_tree.specs.declared.nodes.At.{At}
use Rattle.rf_tree.specs.Told.{Node}
use Rattle.rf_ways.specs.Nodes.{node_in, slot_of}
use Rattle.rf_lines.specs.Written.{Stretch, spaced}
use Rattle.rf_lines.specs.Nodes.{IsWritten, WritesPart, WritesParts, WritesRow, comment_parts}
use Rattle.rf_lines.specs.Turned.{IsLed, SomeLed}
use Rattle.rf_lines.specs.declared.writer.Writer.{Writer}
use Rattle.rf_lines.proofs.Behind.{written_as, written_flat_as, written_both}
use Rattle.rf_lines.proofs.Rows.{step_written, each_before, each_behind}
use Rattle.rf_lines.proofs.Slots.{row_written, RowOf}

-- parts with this want before each, and a part and steps behind them
abbrev led_steps : Want → List Part → Part → List Step → List Step
led_steps w ps x more = steps_wanting w ps ++ step w x ∷ more

-- lines are spaces where flat
lines_spelled : (ts : List Token) (before : ℕ) (ps : List Part) (x : Part) (more : List Step) →
    spelled_all (steps_docs ts before (led_steps want.Space ps x more)) true ≡ spelled_all (steps_docs ts before (led_steps want.Line ps x more)) true
unfolding steps_docs
lines_spelled ts before [] x more =
    let rest : List Doc = steps_docs ts x.last more in
    row_same (gap_docs ts before x.first want.Space) (gap_docs ts before x.first want.Line) x.doc rest rest true (sym (gap_soft ts before x.first want.Line tt)) refl
lines_spelled ts before (p ∷ ps) x more =
    row_same (gap_docs ts before p.first want.Space) (gap_docs ts before p.first want.Line) p.doc (steps_docs ts p.last (led_steps want.Space ps x more)) (steps_docs ts p.last (led_steps want.Line ps x more)) true
    (sym (gap_soft ts before p.first want.Line tt)) (lines_spelled ts p.last ps x more)

-- and have no hard newline where spaces have none
line_flat : (ts : List Token) (before : ℕ) (p : Part) (rest other : List Doc) → (EachIsFlattenable rest → EachIsFlattenable other) →
    EachIsFlattenable (gap_docs ts before p.first want.Space ++ p.doc ∷ rest) → EachIsFlattenable (gap_docs ts before p.first want.Line ++ p.doc ∷ other)
line_flat ts before p rest other free h =
    let spaces : List Doc = gap_docs ts before p.first want.Space in
    let behind = each_behind spaces (p.doc ∷ rest) h in
    row_flat (gap_docs ts before p.first want.Line) (p.doc ∷ other) (gap_open ts before p.first want.Space want.Line tt (each_before spaces (p.doc ∷ rest) h)) (behind.0, free behind.1)

lines_flat : (ts : List Token) (before : ℕ) (ps : List Part) (x : Part) (more : List Step) →
    EachIsFlattenable (steps_docs ts before (led_steps want.Space ps x more)) → EachIsFlattenable (steps_docs ts before (led_steps want.Line ps x more))
unfolding steps_docs
lines_flat ts before [] x more h = line_flat ts before x (steps_docs ts x.last more) (steps_docs ts x.last more) (λ k. k) h
lines_flat ts before (p ∷ ps) x more h =
    line_flat ts before p (steps_docs ts p.last (led_steps want.Space ps x more)) (steps_docs ts p.last (led_steps want.Line ps x more)) (λ k. lines_flat ts p.last ps x more k) h

led_last : (before : ℕ) (w : Want) (ps : List Part) (x : Part) (more : List Step) → steps_last before (led_steps w ps x more) ≡ steps_last x.last more
unfolding steps_last
led_last before w [] x more = refl
led_last before w (p ∷ ps) x more = led_last p.last w ps x more

-- an aligned document is written as it is
aligned_written : (writer : Writer) (flat : Bool) (a b : Stretch) (gap : List Doc) (d : Doc) → IsWritten writer flat a b (gap ++ d ∷ []) → IsWritten writer flat a b (gap ++ Align d ∷ [])
unfolding spelled_line spelled_all IsFlattenable
aligned_written writer flat a b gap d h =
    written_as writer flat a b (gap ++ d ∷ []) (gap ++ Align d ∷ []) (λ f. all_append gap (d ∷ []) f ∙ sym (all_append gap (Align d ∷ []) f))
    (λ l some all. row_flat gap (Align d ∷ []) (each_before gap (d ∷ []) all) (each_behind gap (d ∷ []) all)) h

-- the first step of what stands behind the comments, where there is a datum
record Ahead (key datum trailing : Option (Entry Part)) : Type 0 where
  part : Part
  more : List Step
  is : (w : Want) → datum_steps w key datum trailing ≡ step w part ∷ more

ahead_of : (key datum trailing : Option (Entry Part)) (e : Entry Part) → datum ≡ Some e → Ahead key datum trailing
ahead_of key None trailing e some = cc
ahead_of None (Some d) trailing e some = record { part = d.what; more = perhaps_step want.Space trailing []; is = λ w. refl }
ahead_of (Some key) (Some d) trailing e some =
    record { part = key.what; more = step want.Space d.what ∷ perhaps_step want.Space trailing []; is = λ w. refl }

ahead_in : {A : Type 0} (key trailing : Option (Entry Part)) (f : A → Entry Part) (o : Option A) (e : A) → o ≡ Some e → Ahead key (option_map f o) trailing
ahead_in key trailing f o e is = ahead_of key (option_map f o) trailing (f e) (ap (option_map f) is)

aligned_is : (leads : List (Entry Part)) (d : Doc) (c : Part) (ps : List Part) → whats leads ≡ c ∷ ps → aligned_behind leads d ≡ Align d
aligned_is [] d c ps e = cc
aligned_is (lead ∷ leads) d c ps e = refl

doc_is : (steps : List Step) (d : Doc) → d ≡ (part_of steps d).doc
doc_is [] d = refl
doc_is (s ∷ steps) d = refl

-- the slot is written, and breaks unless it is flat
abbrev pub IsLedPart : Writer → List Token → ℕ → Want → Part → Stretch → Stretch → ℕ → Type 0
IsLedPart writer ts before w p a b last = WritesPart writer ts before w p true a b last × (spelled_line p.doc false ≡ None)

led_breaks : (ts : List Token) (u : Slot Part) (c : Part) (ps : List Part) (x : Part) (more : List Step) (led : ℕ) →
    slot_steps u ≡ step want.Nothing c ∷ led_steps want.Line ps x more → EachMayBreak ts c.last ps → led ≡ steps_last c.last (steps_wanting want.Space ps) → MayBreak ts led x.first →
    spelled_line (slot_doc ts u) false ≡ None
unfolding EachMayBreak steps_last
led_breaks ts u c [] x more led is each e may = comments_break ts u want.Nothing c x more is (subst (λ (n : ℕ). MayBreak ts n x.first) e may)
led_breaks ts u c (p ∷ ps) x more led is each e may = comments_break ts u want.Nothing c p (led_steps want.Line ps x more) is each.0

led_row : (writer : Writer) (ts : List Token) (before : ℕ) (w : Want) (u : Slot Part) (c : Part) (ps : List Part) (x : Part) (more : List Step) (a b m d : Stretch) (begun led last : ℕ) →
    whats u.leads ≡ c ∷ ps → slot_steps u ≡ step want.Nothing c ∷ led_steps want.Line ps x more →
    WritesPart writer ts before w c true a b begun → WritesParts writer ts begun ps true b m led → WritesRow writer ts led want.Line (step want.Nothing x ∷ more) true m d last →
    IsLedPart writer ts before w (slot_part ts u) a d last
unfolding steps_docs
led_row writer ts before w u c ps x more a b m d begun led last leads is first comments row =
    let rest = subst (λ (n : ℕ). WritesParts writer ts n ps true b m led) first.1 comments in
    let spaces : List Step = steps_wanting want.Space ps in
    let ended : IsWritten writer true m d (steps_docs ts (steps_last c.last spaces) (step want.Space x ∷ more)) =
    subst (λ (n : ℕ). IsWritten writer true m d (gap_docs ts n x.first want.Space ++ x.doc ∷ steps_docs ts x.last more)) rest.1 row.2 in
    let behind : IsWritten writer true b d (steps_docs ts c.last (led_steps want.Space ps x more)) =
    subst (λ (ds : List Doc). IsWritten writer true b d ds) (sym (steps_append ts c.last spaces (step want.Space x ∷ more)))
    (written_both writer true b m d (steps_docs ts c.last spaces) (steps_docs ts (steps_last c.last spaces) (step want.Space x ∷ more)) rest.2 ended) in
    let lines : List Doc = steps_docs ts c.last (led_steps want.Line ps x more) in
    let gap : List Doc = gap_docs ts before c.first (spaced w) in
    let written : IsWritten writer true a d (gap ++ c.doc ∷ lines) =
    step_written writer true a b d gap c.doc lines first.2
    (written_flat_as writer b d (steps_docs ts c.last (led_steps want.Space ps x more)) lines (lines_spelled ts c.last ps x more) (lines_flat ts c.last ps x more) behind) in
    let steps : List Step = step want.Nothing c ∷ led_steps want.Line ps x more in
    let same : part c.first (steps_last c.last (led_steps want.Line ps x more)) (Align (seq (c.doc ∷ lines))) ≡ slot_part ts u =
    ap (λ (ss : List Step). part_of ss (Align (seq (row_docs ts ss)))) (sym is)
    ∙ ap (part_of (slot_steps u)) (sym (aligned_is u.leads (seq (row_docs ts (slot_steps u))) c ps leads)) in (
      subst (λ (p : Part). WritesPart writer ts before w p true a d last) same
          (first.0, row.1 ∙ sym (led_last c.last want.Line ps x more), aligned_written writer true a d gap (seq (c.doc ∷ lines)) (row_written writer true a d gap c.doc lines written)),
      subst (λ (doc : Doc). spelled_line doc false ≡ None) (doc_is (slot_steps u) (slot_doc ts u)) (led_breaks ts u c ps x more led is rest.0 rest.1 row.0),
    )

-- comments, and one behind them
pub comments_end : (style : StyleView) (ts : List Token) (quoted : Bool) (es : List (Entry Tree)) (e : Entry Tree) →
    comment_parts style ts quoted (es ++ e ∷ []) ≡ comment_parts style ts quoted es ++ node_in style ts quoted Free e.what ∷ []
comments_end style ts quoted [] e = refl
comments_end style ts quoted (x ∷ es) e = ap (λ (ps : List Part). node_in style ts quoted Free x.what ∷ ps) (comments_end style ts quoted es e)

-- the trees of its comments
pub record Comments (ts : List Token) (nodes : List Node) (first : At) (others : List At) (es : List (Entry Tree)) : Type 0 where
  pub entry : Entry Tree
  pub entries : List (Entry Tree)
  pub is : es ≡ entry ∷ entries
  pub unfolds : UnfoldsTo ts nodes first.0 entry.what
  pub stand : NodesStand ts nodes others entries

pub comments_of : (ts : List Token) (nodes : List Node) (ats : List At) (first : At) (others : List At) (es : List (Entry Tree)) → ats ≡ first ∷ others → NodesStand ts nodes ats es → Comments ts nodes first others es
comments_of ts nodes ats first others es is h = go es (subst (λ (xs : List At). NodesStand ts nodes xs es) is h)
  where
    go : (es : List (Entry Tree)) → NodesStand ts nodes (first ∷ others) es → Comments ts nodes first others es
    go [] h = absurd h
    go (e ∷ es) h = record { entry = e; entries = es; is = refl; unfolds = h.0; stand = h.1 }

pub led_written : (writer : Writer) (style : StyleView) (ts : List Token) (nodes : List Node) (before : ℕ) (w : Want) (kept : NodeSlot) (first : At) (others : List At) (s : Slot Tree) (quoted : Bool) (role : Role) (a b m d : Stretch) (begun led last : ℕ) →
    kept.leads ≡ first ∷ others → NodeSlotStands ts nodes kept s →
    ((t : Tree) → UnfoldsTo ts nodes first.0 t → WritesPart writer ts before w (node_in style ts quoted Free t) true a b begun) →
    ((es : List (Entry Tree)) → NodesStand ts nodes others es → WritesParts writer ts begun (comment_parts style ts quoted es) true b m led) →
    RowOf writer style ts led want.Line s quoted role true m d last → IsLedPart writer ts before w (slot_part ts (slot_of style ts quoted role s)) a d last
led_written writer style ts nodes before w kept first others s quoted role a b m d begun led last leads stands lead comments row =
    let o = comments_of ts nodes kept.leads first others s.leads leads stands.leads in
    let u : Slot Part = slot_of style ts quoted role s in
    let c : Part = node_in style ts quoted Free o.entry.what in
    let ps : List Part = comment_parts style ts quoted o.entries in
    let are : whats u.leads ≡ c ∷ ps = ap (comment_parts style ts quoted) o.is in
    let x = ahead_in u.key u.trailing (entry_in quoted (role_behind (option_map (entry_piece style ts) s.key) role)) (option_map (entry_piece style ts) s.datum) (entry_piece style ts row.0.0) (ap (option_map (entry_piece style ts)) row.0.1) in
    let is : slot_steps u ≡ step want.Nothing c ∷ led_steps want.Line ps x.part x.more =
    ap (λ (qs : List Part). lead_steps want.Nothing qs (λ v. datum_steps v u.key u.datum u.trailing)) are
    ∙ ap (λ (ss : List Step). step want.Nothing c ∷ (steps_wanting want.Line ps ++ ss)) (x.is want.Line) in
    led_row writer ts before w u c ps x.part x.more a b m d begun led last are is (lead o.entry.what o.unfolds) (comments o.entries o.stand)
    (subst (λ (ss : List Step). WritesRow writer ts led want.Line ss true m d last) (x.is want.Nothing) row.1)

-- a slot of one comment and nothing else
remark_is : (ts : List Token) (nodes : List Node) (kept : NodeSlot) (at : At) (others : List At) (s : Slot Tree) → kept.leads ≡ at ∷ others → others ≡ [] → kept.key ≡ None → kept.datum ≡ None → kept.trailing ≡ None →
    NodeSlotStands ts nodes kept s → (e : Entry Tree) × (s ≡ slot (e ∷ []) None None None) × UnfoldsTo ts nodes at.0 e.what
remark_is ts nodes kept at others s leads none key datum trailing h =
    go s.leads s.key s.datum s.trailing (subst (λ (ats : List At). NodesStand ts nodes ats s.leads) (leads ∙ ap (λ (ats : List At). at ∷ ats) none) h.leads)
    (subst (λ (a : Option At). NodeStands ts nodes a s.key) key h.key) (subst (λ (a : Option At). NodeStands ts nodes a s.datum) datum h.datum)
    (subst (λ (a : Option At). NodeStands ts nodes a s.trailing) trailing h.trailing)
  where
    go : (ls : List (Entry Tree)) (k d r : Option (Entry Tree)) → NodesStand ts nodes (at ∷ []) ls → NodeStands ts nodes None k → NodeStands ts nodes None d → NodeStands ts nodes None r →
        (e : Entry Tree) × (slot ls k d r ≡ slot (e ∷ []) None None None) × UnfoldsTo ts nodes at.0 e.what
    go [] k d r hl hk hd hr = absurd hl
    go (e ∷ x ∷ ls) k d r hl hk hd hr = absurd hl.1
    go (e ∷ []) (Some k) d r hl hk hd hr = absurd hk
    go (e ∷ []) None (Some d) r hl hk hd hr = absurd hd
    go (e ∷ []) None None (Some r) hl hk hd hr = absurd hr
    go (e ∷ []) None None None hl hk hd hr = (e, refl, hl.0)

pub remark_written : (writer : Writer) (style : StyleView) (ts : List Token) (nodes : List Node) (before : ℕ) (w : Want) (kept : NodeSlot) (at : At) (others : List At) (s : Slot Tree) (quoted : Bool) (role : Role) (flat : Bool) (a b : Stretch) (last : ℕ) →
    kept.leads ≡ at ∷ others → others ≡ [] → kept.key ≡ None → kept.datum ≡ None → kept.trailing ≡ None → NodeSlotStands ts nodes kept s →
    ((t : Tree) → UnfoldsTo ts nodes at.0 t → WritesPart writer ts before w (node_in style ts quoted Free t) flat a b last) →
    WritesPart writer ts before w (slot_part ts (slot_of style ts quoted role s)) flat a b last
unfolding steps_docs steps_last
remark_written writer style ts nodes before w kept at others s quoted role flat a b last leads none key datum trailing stands written =
    let o = remark_is ts nodes kept at others s leads none key datum trailing stands in
    let p : Part = node_in style ts quoted Free o.0.what in
    let h = written o.0.what o.2 in
    subst (λ (x : Slot Tree). WritesPart writer ts before w (slot_part ts (slot_of style ts quoted role x)) flat a b last) (sym o.1)
    (h.0, h.1, aligned_written writer flat a b (gap_docs ts before p.first (spaced w)) (seq (p.doc ∷ [])) (row_written writer flat a b (gap_docs ts before p.first (spaced w)) p.doc [] h.2))

-- slots of which one begins with a comment: there is none among none; it is the first or among the others, and so it is
-- of the parts that break; and it is among all where it is among the last of them
pub none_led : (slots : List NodeSlot) → slots ≡ [] → SomeLed slots → ⊥
unfolding SomeLed
none_led [] e h = h
none_led (k ∷ slots) e h = cc

abbrev pub IsSlotBehind : Writer → List Token → ℕ → Want → NodeSlot → Part → Bool → Stretch → Stretch → ℕ → Type 0
IsSlotBehind writer ts before w k p flat a b last = WritesPart writer ts before w p flat a b last × (IsLed k → spelled_line p.doc false ≡ None)

abbrev pub AreOthers : Writer → List Token → ℕ → List NodeSlot → List Part → Bool → Stretch → Stretch → ℕ → Type 0
AreOthers writer ts before slots parts flat a b last = WritesParts writer ts before parts flat a b last × (SomeLed slots → SomeBreaks parts)

pub breaks_first : (all : List NodeSlot) (k : NodeSlot) (rest : List NodeSlot) (parts : List Part) (p : Part) (ps : List Part) → all ≡ k ∷ rest → parts ≡ p ∷ ps →
    (IsLed k → spelled_line p.doc false ≡ None) → (SomeLed rest → SomeBreaks ps) → SomeLed all → SomeBreaks parts
unfolding SomeLed SomeBreaks
breaks_first all k rest parts p ps is are first others led =
    subst SomeBreaks (sym are) (elim (subst SomeLed is led) [ inl here ↦ inl (first here) | inr behind ↦ inr (others behind) ])

pub led_first : (all : List NodeSlot) (k : NodeSlot) (rest : List NodeSlot) → all ≡ k ∷ rest → IsLed k → SomeLed all
unfolding SomeLed
led_first all k rest is h = subst SomeLed (sym is) (inl h)

pub led_behind : (n : ℕ) (slots : List NodeSlot) → SomeLed (drop n slots) → SomeLed slots
unfolding SomeLed
led_behind zero slots h = h
led_behind (suc n) [] h = h
led_behind (suc n) (k ∷ slots) h = inr (led_behind n slots h)
