pub mod TicketView
