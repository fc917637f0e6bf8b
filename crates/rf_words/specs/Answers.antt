-- What calls answer, beside what is said by the definitions. Want of memory may come in place of each answer.
use Rattle.std.specs.Prelude.{◌≡◌, ⊤, Option, Some, None, option_map, Result, Ok, Err, string_bytes}
use Rattle.rf_words.specs.declared.words.Words.{Words}
use Rattle.rf_words.specs.declared.words.WordsError.{WordsError}
use Rattle.rf_words.specs.declared.words.WordsError.TheVariants.{Refused, Memory}
use Rattle.rf_words.specs.WordsOf.{Said}

-- the words as their definition has them
abbrev pub seen : Words → Said
seen words = record {
  numbers = record {
    width = words.width;
    limit = words.limit;
    blanks = words.blanks;
    jobs = words.jobs;
    sample = words.sample;
  };
  style = option_map string_bytes words.style;
  names = record { cost = words.cost; columns = words.columns };
  mode = words.mode;
}

-- the answer is what is said, or a refusal where nothing is, or memory ran out
abbrev pub Answers : Option Said → Result Words WordsError → Type 0
Answers said (Ok words) = said ≡ Some (seen words)
Answers said (Err Refused) = said ≡ None
Answers said (Err (Memory error)) = ⊤
