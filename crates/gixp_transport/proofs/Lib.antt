mod AdvertisementLemmas
mod TransportLemmas
mod CommandLemmas
mod GreetingLemmas
mod HeldLemmas
mod BodiesLemmas
