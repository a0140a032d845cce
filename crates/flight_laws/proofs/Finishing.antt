-- Where no client waits: one can send exactly if not all are done.
use Rattle.far_model.specs.Members.{is_empty}
use Rattle.std.proofs.Common.{◌≡◌, ℕ, suc, Bool, true, false, cond, not, ◌&&◌, List, [], ◌∷◌, get_or, refl, sym, ap, ◌∙◌}
use Rattle.std.specs.Prelude.{None, is_some}
use Rattle.std.specs.List.{list_all}
use Rattle.far_base.specs.declared.event.Event.TheVariants.{Send}
use Rattle.far_model.specs.Clients.{ClientState}
use Rattle.far_model.specs.Events.{can_send, has_next, send_choices}
use Rattle.far_model.specs.Runs.{is_done}
use Rattle.far_model.specs.State.{nobody}

-- where no client waits, one can send exactly if not all are done
pub none_sends : (clients : List ClientState) (n : ℕ) → ((c : ℕ) → (get_or clients c nobody).waits ≡ None) → is_empty (send_choices n clients) ≡ list_all is_done clients
none_sends [] n h = refl
none_sends (client ∷ clients) n h =
    let sends : can_send client ≡ has_next client.left = ap (λ w. not (is_some w) && has_next client.left) (h 0) in
    let done : is_done client ≡ not (has_next client.left) = ap (λ w. not (is_some w) && not (has_next client.left)) (h 0) in
    ap (λ b. is_empty (cond b (Send n ∷ send_choices (suc n) clients) (send_choices (suc n) clients))) sends
    ∙ by (has_next client.left) (none_sends clients (suc n) (λ c. h (suc c)))
    ∙ ap (λ b. b && list_all is_done clients) (sym done)
  where
    by : (b : Bool) → is_empty (send_choices (suc n) clients) ≡ list_all is_done clients → is_empty (cond b (Send n ∷ send_choices (suc n) clients) (send_choices (suc n) clients)) ≡ not b && list_all is_done clients
    by true e = refl
    by false e = e
