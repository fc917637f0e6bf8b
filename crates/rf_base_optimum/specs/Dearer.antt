-- Documents that differ in their charges alone.
use Rattle.std.specs.Prelude.{ℕ, ◌≡◌, ◌≤◌}
use Rattle.rf_base_document.specs.Document.{Doc, Text, Newline, Hard, Concat, Nest, Align, Reset, Flatten, Choice, Only, Charge}

-- the second document is the first with some charges made greater
unfoldable pub IsDearer : Doc → Doc → Type 0
IsDearer (Text s len) d = d ≡ Text s len
IsDearer Newline d = d ≡ Newline
IsDearer Hard d = d ≡ Hard
IsDearer (Concat a b) d = (p : Doc) × (q : Doc) × (d ≡ Concat p q) × IsDearer a p × IsDearer b q
IsDearer (Nest n a) d = (p : Doc) × (d ≡ Nest n p) × IsDearer a p
IsDearer (Align a) d = (p : Doc) × (d ≡ Align p) × IsDearer a p
IsDearer (Reset a) d = (p : Doc) × (d ≡ Reset p) × IsDearer a p
IsDearer (Flatten a) d = (p : Doc) × (d ≡ Flatten p) × IsDearer a p
IsDearer (Choice a b) d = (p : Doc) × (q : Doc) × (d ≡ Choice p q) × IsDearer a p × IsDearer b q
IsDearer (Only dir a) d = (p : Doc) × (d ≡ Only dir p) × IsDearer a p
IsDearer (Charge k a) d = (more : ℕ) × (p : Doc) × (d ≡ Charge more p) × (k ≤ more) × IsDearer a p
