-- What one run writes, a later one accepts.
use Rattle.std.proofs.Common.{◌≡◌, ℕ, List, inl, inr, refl, sym, ◌∙◌, subst}
use Rattle.std.proofs.lemmas.List.{append_cancel_left}
use Rattle.tile_model.specs.Tessellations.{TileKind}
use Rattle.log_model.specs.LogTexts.{log_text}
use Rattle.call_words.specs.Tasks.{Task, RunSession, WriteLog, VerifyLog}
use Rattle.walker_run.specs.declared.line.Line.TheVariants.{Related}
use Rattle.walker_run.specs.Held.{Loaded, IsTess, tess_loaded, log_loaded}
use Rattle.walker_run.specs.Due.{Contents, by_task, WritesFor, IsLogText, kind_there, verify_log, log_leads}
use Rattle.walker_run.specs.LaterRuns.{LogsAreVerified}
use Rattle.walker_run.specs.Below.{LawsBelow}
use Rattle.walker_run.proofs.Known.{held}

-- a file with the same bytes holds the same tessellation
same_loaded : (contents later : Contents) (file again : List ℕ) (kinds : List TileKind) → later again ≡ contents file → IsTess contents file (Loaded kinds) → IsTess later again (Loaded kinds)
same_loaded contents later file again kinds same is =
    let there = held contents file is in
    tess_loaded there.bytes kinds (record { content = same ∙ there.holds.content; within = there.holds.within }) there.spelling there.valid

pub logs_verified : LawsBelow → LogsAreVerified
logs_verified below run later p q v =
    let told = p.table.logged v.files_told (λ none. none v.tess v.rules v.k v.u v.w v.form) v.done in
    let task : WriteLog told.logs.tess told.logs.rules told.logs.k told.logs.u told.logs.w ≡ WriteLog v.tess v.rules v.k v.u v.w =
    below.one_task run.words (WriteLog told.logs.tess told.logs.rules told.logs.k told.logs.u told.logs.w) (WriteLog v.tess v.rules v.k v.u v.w) told.logs.form v.form in
    let log : IsLogText run.before.contents v.tess v.rules v.k v.u v.w told.text = subst (λ (t : Task). WritesFor run.before.contents t told.text) task told.logs.logs in
    let text : log_text log.log ≡ v.text = sym log.is ∙ append_cancel_left run.before.taken told.text v.text (sym (told.written v.sink_told) ∙ v.appended) in
    let row = kind_there log.kinds Related (same_loaded run.before.contents later.before.contents v.tess v.tess_again log.kinds v.same_tess log.ready.loaded) log.ready.is_kind
    (verify_log log.log Related (log_loaded v.text log.log v.holds log.have_text text) (log_leads log.leads)) in
    elim (q.table.done v.later_told) [
      | inl some ↦ absurd (cc (below.one_task later.words (VerifyLog v.tess_again v.k v.u v.w v.file) (RunSession some.serves.tess some.kind some.serves.rules) v.later_form some.serves.form))
      | inr (inl logs) ↦ absurd (cc (below.one_task later.words (VerifyLog v.tess_again v.k v.u v.w v.file) (WriteLog logs.tess logs.rules logs.k logs.u logs.w) v.later_form logs.form))
      | inr (inr exact) ↦ exact.always Related (by_task (VerifyLog v.tess_again v.k v.u v.w v.file) Related v.later_form row) refl
    ]
