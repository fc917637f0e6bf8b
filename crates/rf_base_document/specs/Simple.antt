-- Cores: documents without `Flatten` and `Hard`, in which each choice that only one side has a layout for is an `Only`.
use Rattle.std.specs.Prelude.{Bool, true, false, [], ◌∷◌, Option, None, Some, ⊤}
use Rattle.std.specs.Option.{option_map}
use Rattle.rf_base_document.specs.declared.directions.Dir.TheVariants.{Left, Right}
use Rattle.rf_base_document.specs.Document.{Doc, Text, Newline, Hard, Concat, Nest, Align, Reset, Flatten, Choice, Only, Charge}

-- the document has no `Flatten` and no `Hard`
unfoldable pub IsCore : Doc → Type 0
IsCore (Text s len) = ⊤
IsCore Newline = ⊤
IsCore Hard = ⊥
IsCore (Concat a b) = IsCore a × IsCore b
IsCore (Nest n a) = IsCore a
IsCore (Align a) = IsCore a
IsCore (Reset a) = IsCore a
IsCore (Flatten a) = ⊥
IsCore (Choice a b) = IsCore a × IsCore b
IsCore (Only dir a) = IsCore a
IsCore (Charge k a) = IsCore a

-- a newline that is flat is one space
abbrev pub simple_newline : Bool → Doc
simple_newline true = Text (32 ∷ []) 1
simple_newline false = Newline

-- a hard newline that is flat has no layout
abbrev pub simple_hard : Bool → Option Doc
simple_hard true = None
simple_hard false = Some Newline

-- a concatenation has a layout where both parts have
abbrev pub simple_concat : Option Doc → Option Doc → Option Doc
simple_concat (Some a) (Some b) = Some (Concat a b)
simple_concat _ _ = None

-- a choice has a layout where a side has, and is an `Only` where one alone has
abbrev pub simple_choice : Option Doc → Option Doc → Option Doc
simple_choice None None = None
simple_choice None (Some b) = Some (Only Right b)
simple_choice (Some a) None = Some (Only Left a)
simple_choice (Some a) (Some b) = Some (Choice a b)

-- the core of a document, flat or not, where a resolution of it has a layout so
unfoldable pub simple : Doc → Bool → Option Doc
simple (Text s len) flat = Some (Text s len)
simple Newline flat = Some (simple_newline flat)
simple Hard flat = simple_hard flat
simple (Concat a b) flat = simple_concat (simple a flat) (simple b flat)
simple (Nest n a) flat = option_map (Nest n) (simple a flat)
simple (Align a) flat = option_map Align (simple a flat)
simple (Reset a) flat = option_map Reset (simple a flat)
simple (Flatten a) flat = simple a true
simple (Choice a b) flat = simple_choice (simple a flat) (simple b flat)
simple (Only dir a) flat = option_map (Only dir) (simple a flat)
simple (Charge k a) flat = option_map (Charge k) (simple a flat)
