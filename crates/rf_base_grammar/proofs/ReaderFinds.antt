-- Where an item stands the reader finds it.
use Rattle.std.proofs.Common.{◌≡◌, ℕ, inl, inr, List, ◌++◌, ap, ◌∙◌}
use Rattle.rf_base_grammar.specs.Spelled.{Spelled, MayFollow, MayStand, language_may_stand, BeginsItem}
use Rattle.rf_base_grammar.specs.Reader.{Found, front_item}
use Rattle.rf_base_grammar.specs.declared.kinds.Kind.{Kind}
use Rattle.rf_base_grammar.specs.declared.kinds.Kind.TheVariants.{Opener, Closer, Prefix, Skip, Dot, Atom, Str, Here, Block, Line, Lang}
use Rattle.rf_base_grammar.proofs.RunItems.{atom_found, dot_found}
use Rattle.rf_base_grammar.proofs.HeadedItems.{string_found, opener_found, label_found}
use Rattle.rf_base_grammar.proofs.PlainItems.{closer_found, skip_found, prefix_found, character_found, block_found, line_found, here_found}
use Rattle.rf_base_grammar.proofs.LanguageItems.{language_found}

-- an item of each kind
found_by_kind : (before : List Kind) (kind : Kind) (spelling behind : List ℕ) → Spelled kind spelling →
    MayFollow kind spelling behind → MayStand before kind spelling →
    front_item (language_may_stand before) (spelling ++ behind) ≡ Found kind spelling behind
found_by_kind before (Opener b) spelling behind h f m =
    opener_found (language_may_stand before) b spelling behind h.0 h.1 h.2
found_by_kind before (Closer b) spelling behind h f m = closer_found (language_may_stand before) b spelling behind h
found_by_kind before Prefix spelling behind (inl h) f m = prefix_found (language_may_stand before) spelling behind h f
found_by_kind before Prefix spelling behind (inr h) f m =
    label_found (language_may_stand before) spelling behind h.0 h.1 h.2
found_by_kind before Skip spelling behind h f m = skip_found (language_may_stand before) spelling behind h
found_by_kind before Dot spelling behind h f m = rw h (dot_found (language_may_stand before) behind f)
found_by_kind before Atom spelling behind (inl h) f m = atom_found (language_may_stand before) spelling behind h.0 h.1 f
found_by_kind before Atom spelling behind (inr h) f m = character_found (language_may_stand before) spelling behind h f
found_by_kind before Str spelling behind h f m = string_found (language_may_stand before) spelling behind h
found_by_kind before Here spelling behind h f m = here_found (language_may_stand before) spelling behind h f
found_by_kind before Block spelling behind h f m = block_found (language_may_stand before) spelling behind h
found_by_kind before Line spelling behind h f m = line_found (language_may_stand before) spelling behind h f
found_by_kind before Lang spelling behind h f m =
    ap (λ language. front_item language (spelling ++ behind)) m.0
    ∙ language_found spelling f.0 f.1 behind f.2 (m.1 f.0 f.1 f.2) f.3

pub found_front : (before : List Kind) (text : List ℕ) (kind : Kind) (spelling behind : List ℕ) →
    BeginsItem before text kind spelling behind →
    front_item (language_may_stand before) text ≡ Found kind spelling behind
found_front before text kind spelling behind b =
    ap (λ xs. front_item (language_may_stand before) xs) b.text_is
    ∙ found_by_kind before kind spelling behind b.spelled b.follows b.stands
