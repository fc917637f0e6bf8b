-- The command: its options and flags, in the terms of `clap`.
use Rattle.std.specs.Prelude.{ℕ, pos, true, Some, codes}
use Rattle.clap.specs.Words.{App, Rule, Text, new_app, new_rule, with_rule}
use Rattle.clap.specs.declared.builder.action.ArgAction.TheVariants.{Set, SetTrue}
use Rattle.clap.specs.declared.builder.value_parser.ValueParser.TheVariants as parser

-- an option of one value, with its long name alone
abbrev pub option : Text → Rule
option id = record (new_rule id) { long = Some id; action = Some Set }

-- an option of a number from least to most
abbrev pub numbered : Text → ℕ → ℕ → Rule
numbered id least most = record (option id) { parser = Some (parser.Signed (pos least) (pos most)) }

-- a flag, with its long name alone
abbrev pub flag : Text → Rule
flag id = record (new_rule id) { long = Some id; action = Some SetTrue }

-- the command without options: its words don't begin with the program's name, and nothing asks for help
abbrev pub bare : App
bare =
    let app = new_app (codes "rf_fmt") in
    record app { top = record app.top { no_binary_name = true; disable_help_flag = true } }

-- with the options that replace numbers of the style
abbrev pub with_measures : App → App
with_measures app =
    with_rule (with_rule (with_rule app (numbered (codes "width") 1 400)) (numbered (codes "limit") 1 400))
    (numbered (codes "max-blank-lines") 0 9)

-- with the options that count jobs and the sample's forms
abbrev pub with_counts : App → App
with_counts app =
    with_rule (with_rule app (numbered (codes "jobs") 1 64)) (numbered (codes "sample") 1 10000)

-- with the options that are texts
abbrev pub with_texts : App → App
with_texts app =
    with_rule (with_rule (with_rule app (option (codes "style"))) (option (codes "cost"))) (option (codes "columns"))

-- with the flags
abbrev pub with_flags : App → App
with_flags app =
    with_rule (with_rule (with_rule app (flag (codes "check"))) (flag (codes "choices"))) (flag (codes "summary"))

-- the command
abbrev pub command : App
command = with_flags (with_texts (with_counts (with_measures bare)))
