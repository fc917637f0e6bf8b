-- What a node is told as.
use Rattle.std.specs.Str.{chars}
use Rattle.rf_base_document.specs.Document as doc
use Rattle.rf_base_document.specs.Document.{Doc}
use Rattle.rf_walk.specs.declared.kinds.Kind.{Kind}
use Rattle.rf_walk.specs.declared.kinds.Kind.TheVariants.{Text, Newline, Hard, Concat, Nest, Align, Reset, Flatten}
use Rattle.rf_walk.specs.declared.kinds.Kind.TheVariants.{Choice, Only, Charge}

-- the document that is told so, where f says what its parts are
abbrev pub kind_doc : {N : Type 0} → (N → Doc) → Kind N → Doc
kind_doc f (Text s len) = doc.Text (chars s.now) len
kind_doc f Newline = doc.Newline
kind_doc f Hard = doc.Hard
kind_doc f (Concat a b) = doc.Concat (f a) (f b)
kind_doc f (Nest n a) = doc.Nest n (f a)
kind_doc f (Align a) = doc.Align (f a)
kind_doc f (Reset a) = doc.Reset (f a)
kind_doc f (Flatten a) = doc.Flatten (f a)
kind_doc f (Choice a b) = doc.Choice (f a) (f b)
kind_doc f (Only dir a) = doc.Only dir (f a)
kind_doc f (Charge k a) = doc.Charge k (f a)
