-- What a run writes that ends so.
use Rattle.std.proofs.Common.{◌≡◌, ◌⊎◌, inl, inr, ℕ, List, [], ◌++◌, Option, Some, None, refl, sym, ap, subst, ◌∙◌, append-nil, codes}
use Rattle.std.specs.Global.{Global}
use Rattle.std.specs.Prelude.{String}
use Rattle.std.specs.Io.KnownBytes.{Appends, Keeps}
use Rattle.rf_edges.specs.Bytes.{AppendsPrefix}
use Rattle.rf_top.specs.Answer.{Answer, IsAnswer, stopped}
use Rattle.rf_top.specs.Lines.{line_of, status_of}
use Rattle.rf_top.specs.Running.{Answers, Gets, IsDone, OrOutside, Tells, told_of}
use Rattle.rf_top.specs.declared.status.Status.{Status}
use Rattle.rf_top.specs.declared.status.Status.TheVariants as status
use Rattle.rf_top.specs.declared.stops.Stop.{Stop}
use Rattle.rf_top.specs.declared.stops.Stop.TheVariants as stop
use Rattle.rf_top.proofs.Running.{one_answer}

-- nothing is written
appends_nothing : (known : Option (List ℕ)) → Appends known known []
appends_nothing None = tt
appends_nothing (Some xs) = sym (append-nil xs)

keeps : (known : Option (List ℕ)) → Keeps known known
keeps None = tt
keeps (Some xs) = refl

-- a status that says all of its answer
record SaysAll (ended : Status) : Type 0 where
  gets : (answer : Answer) (old new : Option (List ℕ)) → answer.status ≡ ended → Appends old new answer.out → Gets ended answer old new
  told : (answer : Answer) → told_of ended answer ≡ answer.err
  answers : (words : List (String Global)) (file source : List ℕ) (answer : Answer) → IsAnswer words file source answer → Answers ended words file source answer
  not_read : ended ≡ status.ReadFault → ⊥

fine_says : SaysAll status.Fine
fine_says = record { gets = λ a old new is h. (is, h); told = λ a. refl; answers = λ w f s a h. h; not_read = λ is. cc }

differs_says : SaysAll status.Differs
differs_says = record { gets = λ a old new is h. (is, h); told = λ a. refl; answers = λ w f s a h. h; not_read = λ is. cc }

done_says : (ended : Status) → IsDone ended → SaysAll ended
done_says ended (inl is) = subst SaysAll (sym is) fine_says
done_says ended (inr is) = subst SaysAll (sym is) differs_says

-- a reason that is no fault and no want of memory
record IsInside (s : Stop) : Type 0 where
  says : SaysAll (status_of s)
  cause : (words : List (String Global)) (file source : List ℕ) (answer : Answer) → OrOutside s (IsAnswer words file source answer) → IsAnswer words file source answer

-- why a run stops
stop_cases : (s : Stop) → (s ≡ stop.Read) ⊎ (s ≡ stop.Memory) ⊎ (s ≡ stop.Write) ⊎ IsInside s
stop_cases stop.Read = inl refl
stop_cases stop.Memory = inr (inl refl)
stop_cases stop.Write = inr (inr (inl refl))
stop_cases s =
    inr (inr (inr (record {
      says = record { gets = λ a old new is h. (is, h); told = λ a. refl; answers = λ w f s a h. h; not_read = λ is. cc };
      cause = λ w f s a h. h;
    })))

-- what a run writes that ended so of this answer
abbrev pub Wrote : Status → Answer → (out_old out_new err_old err_new : Option (List ℕ)) → (before after : ℕ) → Type 0
Wrote ended answer out_old out_new err_old err_new before after =
    Gets ended answer out_old out_new × Tells err_old err_new before after (told_of ended answer)

-- a run that is done wrote its answer, and told nothing
pub done_wrote : (ended : Status) (answer : Answer) (old new err : Option (List ℕ)) (faults : ℕ) → IsDone ended → answer.status ≡ ended → answer.err ≡ [] →
    Appends old new answer.out → Wrote ended answer old new err err faults faults
done_wrote ended answer old new err faults done is none h =
    let says = done_says ended done in
    (says.gets answer old new is h, inl (subst (Appends err err) (sym (says.told answer ∙ none)) (appends_nothing err)))

pub done_answers : (ended : Status) (words : List (String Global)) (file source : List ℕ) (answer : Answer) → IsDone ended → IsAnswer words file source answer →
    Answers ended words file source answer
done_answers ended words file source answer done h = (done_says ended done).answers words file source answer h

-- a run whose write failed wrote a prefix, and told that
pub write_wrote : (ended : Status) (answer : Answer) (old new err_old err_new : Option (List ℕ)) (before after : ℕ) → ended ≡ status.WriteFault →
    AppendsPrefix old new answer.out → Tells err_old err_new before after (line_of stop.Write ++ codes "\n") → Wrote ended answer old new err_old err_new before after
write_wrote ended answer old new err_old err_new before after is prefix tells =
    subst (λ (s : Status). Wrote s answer old new err_old err_new before after) (sym is) (prefix, tells)

pub write_answers : (ended : Status) (words : List (String Global)) (file source : List ℕ) (answer : Answer) → ended ≡ status.WriteFault → IsAnswer words file source answer →
    Answers ended words file source answer
write_answers ended words file source answer is h = subst (λ (s : Status). Answers s words file source answer) (sym is) h

-- a run that stopped wrote nothing, and told why
pub stop_wrote : (s : Stop) (ended : Status) (out err_old err_new : Option (List ℕ)) (before after : ℕ) → (s ≡ stop.Write → ⊥) → ended ≡ status_of s →
    Tells err_old err_new before after (line_of s ++ codes "\n") → Wrote ended (stopped s) out out err_old err_new before after
stop_wrote s ended out err_old err_new before after not_write is tells =
    subst (λ (e : Status). Wrote e (stopped s) out out err_old err_new before after) (sym is)
    (elim (stop_cases s) [
      | inl read ↦
          subst (λ (t : Stop). Wrote (status_of t) (stopped t) out out err_old err_new before after) (sym read)
          (keeps out, subst (λ (t : Stop). Tells err_old err_new before after (line_of t ++ codes "\n")) read tells)
      | inr (inl memory) ↦
          subst (λ (t : Stop). Wrote (status_of t) (stopped t) out out err_old err_new before after) (sym memory)
          (keeps out, subst (λ (t : Stop). Tells err_old err_new before after (line_of t ++ codes "\n")) memory tells)
      | inr (inr (inl write)) ↦ absurd (not_write write)
      | inr (inr (inr inside)) ↦ (
        inside.says.gets (stopped s) out out refl (appends_nothing out),
        subst (Tells err_old err_new before after) (sym (inside.says.told (stopped s))) tells,
      )
    ])

pub stop_answers : (s : Stop) (ended : Status) (words : List (String Global)) (file source : List ℕ) → (s ≡ stop.Write → ⊥) → ended ≡ status_of s →
    OrOutside s (IsAnswer words file source (stopped s)) → Answers ended words file source (stopped s)
stop_answers s ended words file source not_write is h =
    subst (λ (e : Status). Answers e words file source (stopped s)) (sym is)
    (elim (stop_cases s) [
      | inl read ↦ subst (λ (t : Stop). Answers (status_of t) words file source (stopped s)) (sym read) tt
      | inr (inl memory) ↦ subst (λ (t : Stop). Answers (status_of t) words file source (stopped s)) (sym memory) tt
      | inr (inr (inl write)) ↦ absurd (not_write write)
      | inr (inr (inr inside)) ↦ inside.says.answers words file source (stopped s) (inside.cause words file source (stopped s) h)
    ])

-- where neither the outside nor memory fails, a run stops as its answer says
pub stop_complete : (s : Stop) (ended : Status) (words : List (String Global)) (file source : List ℕ) (answer : Answer) → (s ≡ stop.Write → ⊥) → (s ≡ stop.Read → ⊥) →
    ended ≡ status_of s → OrOutside s (IsAnswer words file source (stopped s)) → IsAnswer words file source answer → (ended ≡ answer.status) ⊎ (ended ≡ status.NoMemory)
stop_complete s ended words file source answer not_write not_read is h k =
    elim (stop_cases s) [
      | inl read ↦ absurd (not_read read)
      | inr (inl memory) ↦ inr (is ∙ ap status_of memory)
      | inr (inr (inl write)) ↦ absurd (not_write write)
      | inr (inr (inr inside)) ↦ inl (is ∙ one_answer words file source (stopped s) answer (inside.cause words file source (stopped s) h) k)
    ]

-- a run that stops for a read fault stops for that reason
pub stop_read : (s : Stop) (ended : Status) → (s ≡ stop.Write → ⊥) → ended ≡ status_of s → ended ≡ status.ReadFault → s ≡ stop.Read
stop_read s ended not_write is fault =
    elim (stop_cases s) [
      | inl read ↦ read
      | inr (inl memory) ↦ let both : status.NoMemory ≡ status.ReadFault = sym (ap status_of memory) ∙ (sym is ∙ fault) in cc
      | inr (inr (inl write)) ↦ absurd (not_write write)
      | inr (inr (inr inside)) ↦ absurd (inside.says.not_read (sym is ∙ fault))
    ]
